-- The table of specs/Examples.antt: one proof computes all cases. Assumes nothing.
use Rattle.std.specs.Prelude.{ℕ, ◌≡◌, refl, List, [], map, get_or}
use Rattle.std.proofs.Common.{ap}
use Rattle.model.specs.Below as below
use Rattle.model.specs.Counts as counts
use Rattle.model.specs.Field as field
use Rattle.model.specs.Plan as plan
use Rattle.model.specs.Graph as graph
use Rattle.model.specs.Table as table
use Rattle.model.specs.Contention as contention
use Rattle.model.specs.Rules as rules
use Rattle.model.specs.ListRule as rule
use Rattle.model.specs.BusRule as bus
use Rattle.model.specs.Answers as answers
use Rattle.model.specs.Answers.{Said, time_says, check_says, made_of, made_output, verdict_of, played_of, played_output}
use Rattle.model.specs.Counts.{delay}
use Rattle.model.specs.Examples.{Case, cases}

-- the computed test
pub computed : map (λ (c : Case). c.given) cases ≡ map (λ (c : Case). c.wanted) cases
unfolding cases below.join_below below.first_below below.best_below counts.slots counts.full counts.delay counts.word_time field.plan_body field.table_body field.step_in plan.settings_good plan.in_order plan.header_in plan.task_in plan.edge_in plan.field_of plan.least_key plan.fields_from plan.reading_from plan.reading_of graph.place_of graph.ready graph.next_task graph.take_next graph.listed graph.list_order graph.left_over graph.plan_of table.numbers_at table.four_bytes table.field_bytes table.non_falling table.values_of table.row_at table.rows_check table.table_of contention.moved contention.read_words contention.write_words contention.of_phase contention.phase_words contention.overlap contention.rival contention.rivals rules.delay_at rules.execute_at rules.edge_at rules.crossing rules.cross_at rules.window_at rules.rules_check rule.plan_by_place rule.added rule.candidate rule.first_lengths rule.is_source rule.earliest rule.clashes rule.least_free rule.start_of rule.starts_of rule.placed rule.grown rule.rounds rule.settled rule.finished rule.makespan_of rule.chosen rule.winner rule.made rule.made_bytes rule.made_makespan bus.held bus.sent bus.free_at bus.last_served bus.pending bus.asks bus.core_asks bus.core_after bus.soonest bus.choice_time bus.core_served bus.phase_served bus.grant_at bus.grant_next bus.play bus.run bus.finish bus.waits_before bus.waits bus.answers answers.room answers.judged answers.verdict_of answers.making answers.made_of answers.made_output answers.declared answers.served_check answers.words_check answers.playing answers.played_of answers.played_output
computed = refl

-- the law: at each index of the table the definitions give what the document says
pub each : (i : ℕ) → get_or (map (λ (c : Case). c.given) cases) i [] ≡ get_or (map (λ (c : Case). c.wanted) cases) i []
each i = ap (λ (l : List (List ℕ)). get_or l i []) computed
