-- What `make` promises settles its answer and the output. Assumes nothing.
use mathlib.Core.Path.{◌≡◌, sym, ◌∙◌}
use mathlib.Core.List.{List}
use Prim.Native.Nat.{ℕ}
use Rattle.model.specs.Refusals.{Outcome}
use Rattle.model.specs.Answers.{made_of, made_output}
use Rattle.model.specs.declared.Time.{Time}

pub make_one : (plan out : List ℕ) (r r' : Outcome Time) (o o' : List ℕ) → (r ≡ made_of plan out) × (o ≡ made_output plan out)
    → (r' ≡ made_of plan out) × (o' ≡ made_output plan out) → (r ≡ r') × (o ≡ o')
make_one plan out r r' o o' h h' = (h.0 ∙ sym h'.0, h.1 ∙ sym h'.1)
