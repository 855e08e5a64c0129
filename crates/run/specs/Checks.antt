-- Document 01, "The run: plan and table as the verifier does .., 16, 17 (length first), 8", on plain numbers and columns.
-- Assumes nothing.
use Rattle.std.specs.Prelude.{ℕ, ◌*◌, Bool, not, List, length, ltb, leb, eqb}
use Rattle.model.specs.Below.{at}
use Rattle.model.specs.Refusals.{refusal, refuse_if, or_else, first_bad, Check}
use Rattle.model.specs.declared.Fault.TheVariants.{OutputShort, ServedUnknown, WordsWrong}
use Rattle.model.specs.declared.Side.TheVariants.{OfNeither}

-- phase x asks for more words than are declared for it
unfoldable pub over_at : List ℕ → List ℕ → ℕ → Bool
over_at most words x = ltb (at most x) (at words x)

-- 17 of phase x, at its index
unfoldable pub over_check : List ℕ → List ℕ → ℕ → Check
over_check most words x = refuse_if (over_at most words x) (refusal WordsWrong OfNeither x)

-- 17, by the declared words of all phases: the list's length, or the first bad index
unfoldable pub words_by : List ℕ → List ℕ → Check
words_by most words =
    or_else (refuse_if (not (eqb (length words) (length most))) (refusal WordsWrong OfNeither (length words)))
    (first_bad (over_check most words) (length most))

-- 16, 17, 8, with room for so many numbers
unfoldable pub run_by : ℕ → ℕ → List ℕ → List ℕ → ℕ → Check
run_by cores served most words room =
    or_else (refuse_if (leb cores served) (refusal ServedUnknown OfNeither 0))
    (or_else (words_by most words)
    (refuse_if (ltb room (2 * length most)) (refusal OutputShort OfNeither 0)))
