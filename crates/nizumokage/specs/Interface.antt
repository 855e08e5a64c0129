-- What a C caller gets: number 0 is success, with the makespan as its value where there is one; otherwise the refusal number, its
-- side and its place. Assumes nothing.
use Rattle.std.specs.Prelude.{ℕ}
use Rattle.model.specs.Below.{at}
use Rattle.model.specs.Answers.{Said}
use Rattle.model.specs.declared.Side.{Side}
use Rattle.model.specs.declared.Side.TheVariants.{OfNeither, OfPlan, OfTable}
use Rattle.nizumokage.specs.declared.Answer.{Answer}

-- side 0 neither, 1 plan, 2 table
abbrev pub side_number : Side → ℕ
side_number OfNeither = 0
side_number OfPlan = 1
side_number OfTable = 2

abbrev pub answer_of : Said → Answer
answer_of s = record { number = s.number; side = side_number s.side; place = s.place; value = at s.values 0 }
