-- A plan as the columns that were read of it, and the windows of phases in columns. Assumes nothing.
use Rattle.std.specs.Prelude.{ℕ, ◌+◌, ◌*◌, ◌/◌, List, ltb}
use Rattle.model.specs.Below.{at}
use Rattle.model.specs.Plan.{Plan}
use Rattle.model.specs.Refusals.{refusal, refuse_if, Check}
use Rattle.model.specs.declared.Bus.{Bus}
use Rattle.model.specs.declared.Fault.TheVariants.{WindowShort}
use Rattle.model.specs.declared.Side.TheVariants.{OfTable}

abbrev pub plan_by : Bus → List ℕ → List ℕ → List ℕ → List ℕ → Plan
plan_by bus costs sources targets amounts =
    record { bus = bus; costs = costs; sources = sources; targets = targets; amounts = amounts }

-- the window of phase x in columns lasts at least its delay there (`window_at` with the delays of the phases)
unfoldable pub lasts_at : List ℕ → List ℕ → List ℕ → ℕ → Check
lasts_at start end delays x = refuse_if (ltb (at end x) (at start x + at delays x)) (refusal WindowShort OfTable (20 * (x / 2)))
