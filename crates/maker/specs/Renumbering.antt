-- The plan in list order as the maker keeps it, in columns by list place: "Tasks are added in that order. Words count only edges
-- between tasks already added, the new one included." (document 01, "The list rule"; `plan_by_place` and `added`), and the table,
-- from the columns of its phases by place. Assumes nothing.
use Rattle.std.specs.Prelude.{ℕ, zero, suc, ◌+◌, ◌*◌, cond, ◌&&◌, List, length, set, ltb}
use Rattle.model.specs.Below.{at, list_below}
use Rattle.model.specs.Graph.{place_of}
use Rattle.model.specs.Table.{Table}

-- ---- costs and edges by place
abbrev pub costs_by : List ℕ → List ℕ → List ℕ
costs_by costs order = list_below (λ a. at costs (at order a)) (length order)

-- the places of tasks, of the sources or of the targets of edges
abbrev pub places_by : List ℕ → List ℕ → List ℕ
places_by order ends = list_below (λ e. place_of order (at ends e)) (length ends)

-- the words of an edge between the first k places, 0 of any other
abbrev pub masked_at : List ℕ → List ℕ → List ℕ → ℕ → ℕ → ℕ
masked_at sources targets amounts k e = cond (ltb (at sources e) k && ltb (at targets e) k) (at amounts e) 0

abbrev pub masked_by : List ℕ → List ℕ → List ℕ → ℕ → List ℕ
masked_by sources targets amounts k = list_below (masked_at sources targets amounts k) (length sources)

-- the chains of the first m edges: at 64 + e what stood at its target, and there the edge, as one more than its number
unfoldable pub linked_by : List ℕ → List ℕ → ℕ → List ℕ
linked_by targets links zero = links
linked_by targets links (suc e) =
    let l = linked_by targets links e in
    let a = at targets e in
    set (set l (64 + e) (at l a)) a (e + 1)

-- ---- the table by place, from the columns of its phases
abbrev pub rows_by : List ℕ → List ℕ → List ℕ → Table
rows_by cores start end =
    record {
      core = at cores;
      R = λ a. at start (2 * a);
      E = λ a. at end (2 * a);
      W = λ a. at start (2 * a + 1);
      F = λ a. at end (2 * a + 1);
    }
