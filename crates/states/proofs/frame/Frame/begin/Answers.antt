use Rattle.std.proofs.Common.{rules, arith, ◌∙◌, refl, length}
use Rattle.std.proofs.lemmas.Int.{ints}
use Rattle.module_format.specs.Contents.{procedure_of}
use Rattle.states.specs.Frames.{frame_facts}
use Rattle.states.proofs.Procedures.{parameters-none, parameters-more, parameter-room, parameters-all}
use Rattle.states.proofs.frame.Frame.begin.Goals as goal

pub loop-last-init : goal.loop-last-init
loop-last-init c =
    let h = parameters-none c.args.row.now.parameters.items c.as_slice-rest.result.now
    (frame_facts c.restart.new.self) c.as_slice-rest.ensures.value c.restart.ensures.facts in
    record { front = h.0; facts = h.1; room = c.restart.ensures.room }

pub place-requires : goal.place-requires
place-requires c =
    parameter-room c.args.self.now c.loop-last.self c.args.row.now.parameters.items c.loop-last.rest.now
    c.in-Some.earlier.now c.in-Some.last.now _
    c.requires.room c.loop-last.invariant.room (search rules) c.loop-last.invariant.front
    (let e = c.from.ensures in omega (arith, ints, e))

pub loop-last-preserved : goal.loop-last-preserved
loop-last-preserved c =
    let h =
    parameters-more c.args.row.now.parameters.items c.loop-last.rest.now c.in-Some.earlier.now c.in-Some.last.now
    (frame_facts c.loop-last.self) (frame_facts c.place.new.self) _
    (length c.in-Some.earlier.now) c.parameter_fact.result
    (search rules) (search rules) c.loop-last.invariant.front c.loop-last.invariant.facts
    (let e = c.from.ensures in omega (arith, ints, e)) refl c.parameter_fact.ensures c.place.ensures.facts in
    let same = c.loop-last.invariant.room in
    let placed = c.place.ensures.room in
    record {
      front = h.0;
      facts = h.1;
      room = record { lo = placed.lo ∙ same.lo; len = placed.len ∙ same.len; same = placed.same ∙ same.same };
    }

pub returns-clause-facts : goal.returns-clause-facts
returns-clause-facts c =
    parameters-all (procedure_of c.args.row.now) c.loop-last.rest.now (frame_facts c.loop-last.self)
    (frame_facts c.place-2.new.self) _
    (search rules) c.loop-last.invariant.facts (omega (arith, ints)) c.place-2.ensures.facts
