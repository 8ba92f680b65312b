use Rattle.std.proofs.Common.{List, sym, ap, ◌∙◌, rules, SFits}
use Rattle.std.proofs.lemmas.Int.{to_z-of_z}
use Rattle.std.proofs.lemmas.List.{take_rest}
use Rattle.std.specs.Int.{w64}
use Rattle.module_format.specs.Order.{least_word}
use Rattle.module_format.specs.Rows.{Entry}
use Rattle.states.specs.State.{entry_fact}
use Rattle.states.proofs.RowFacts.{rise-drop}
use Rattle.states.proofs.runs.run_near.Goals as goal

pub without_ended-rest-requires : goal.without_ended-rest-requires
without_ended-rest-requires c =
    rw (take_rest c.args.row.now c.place_near-place.result)
    (rise-drop least_word c.args.row.now c.place_near-place.result c.requires.apart)

pub returns : goal.returns
returns c =
    let run = c.in_ok-run.run' in
    let fits : SFits w64 run.end = search rules in
    let holds = rw (to_z-of_z w64 c.args.word c.ranges.word, to_z-of_z w64 c.args.end c.ranges.end)
    at c.in_ok-run.ensures in
    let ended = rw (to_z-of_z w64 c.args.word c.ranges.word) at c.without_ended-rest.ensures.same in
    let placed = rw (to_z-of_z w64 c.args.word c.ranges.word) at c.place_near-place.ensures.same in
    rw (to_z-of_z w64 run.end fits)
    (record {
      ahead = holds.ahead;
      within = holds.within;
      same = λ k low high.
          sym (ended k low
          ∙ (ap (λ (entries : List Entry). entry_fact entries k) (take_rest c.args.row.now c.place_near-place.result)
          ∙ placed k low))
          ∙ holds.same k low high;
    })
