-- `rounds::most_rounds` meets its contract. Twice the places times the rivals, 896 at most.
use native.Mathlib.Nat.{mul-le-mul}
use Prim.Native.Nat.{◌*◌, ◌-◌, ◌≤◌}
use native.Mathlib.Omega.{arith}
use Rattle.rounds.proofs.most_rounds.Goals as goal

pub overflow_mul-result-2 : goal.overflow_mul-result-2
overflow_mul-result-2 c = let a : 2 * c.args.tasks ≤ 128 = omega arith in let b : c.args.cores - 1 ≤ 7 = omega arith in omega (arith, mul-le-mul a b)
