-- A run under way (src/run.rt), as specs/Heads.antt and specs/OneGrant.antt have its columns. Assumes nothing.
use Rattle.std.specs.Prelude.{ℕ, Bool, Option, List, length}
use Rattle.model.specs.declared.Bus.{Bus}
use Rattle.bus.specs.Heads.{waiting, head_of, headed, head_start, lead_of, asking_at, turn_of}
use Rattle.bus.specs.OneGrant.{sits_at, with_waits, Raisable, Granting, Granted, Opened}
use Rattle.bus.specs.declared.run.Run.{Run}

module _ (r : Run) where
  -- phase y waits on core c; the head that core c should have
  abbrev pub waits_in : ℕ → ℕ → Bool
  waits_in = waiting r.phases.core.now r.left.now

  abbrev pub head_in : ℕ → ℕ
  head_in = head_of r.phases.core.now r.phases.start.now r.left.now

  -- core d has a head; when that starts
  abbrev pub headed_in : ℕ → Bool
  headed_in = headed r.head.now (length r.left.now)

  abbrev pub start_in : ℕ → ℕ
  start_in = head_start r.phases.start.now r.head.now

  -- the core whose head starts first; core d asks at a time; the core whose turn it is then
  abbrev pub lead_in : Option ℕ
  lead_in = lead_of r.phases.start.now r.head.now (length r.left.now)

  abbrev pub asks_in : ℕ → ℕ → Bool
  asks_in = asking_at r.phases.start.now r.head.now (length r.left.now)

  abbrev pub turn_in : ℕ → ℕ → ℕ
  turn_in = turn_of r.phases.start.now r.head.now (length r.left.now)

  -- the head of core d sits through a grant to core c that ends at `ends`; the answers with the waits for it
  abbrev pub sits_in : ℕ → ℕ → ℕ → Bool
  sits_in = sits_at r.phases.start.now r.head.now (length r.left.now)

  abbrev pub waits_added : ℕ → ℕ → List ℕ → List ℕ
  waits_added c ends = with_waits r.phases.start.now r.head.now (length r.left.now) c ends (length r.head.now)

  -- what a grant asks, and what it gives; what stands before the first
  abbrev pub RaisableIn : List ℕ → Type 0
  RaisableIn = Raisable r.head.now (length r.left.now)

  abbrev pub GrantingIn : Bus → ℕ → ℕ → List ℕ → Type 0
  GrantingIn b time c = Granting b r.phases.core.now r.phases.start.now time c r.left.now r.head.now

  abbrev pub GrantedIn : Bus → ℕ → ℕ → List ℕ → ℕ → Run → List ℕ → Type 0
  GrantedIn b time c out ends r' = Granted b r.phases.core.now r.phases.start.now time c r.left.now r.head.now out ends r'.left.now r'.head.now

  abbrev pub OpenedIn : Bus → List ℕ → Type 0
  OpenedIn b = Opened b r.phases.core.now r.phases.start.now r.left.now r.head.now
