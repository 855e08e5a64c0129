-- `model::first_bad`: the checks made so far are good.
use Rattle.std.proofs.Common.{◌≡◌, ℕ}
use Rattle.std.specs.Prelude.{Ok}
use Rattle.model.specs.Refusals.{Check, first_bad, Checks}
use Rattle.model.proofs.first_bad.Given as goal

abbrev pub invariant-loop-i : goal.invariant-loop-i
invariant-loop-i g l = (f : ℕ → Check) → Checks (goal.F-post g l.check) f l.count → first_bad f l.i ≡ Ok tt
