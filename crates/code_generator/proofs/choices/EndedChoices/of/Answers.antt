use Rattle.std.proofs.Common.{List, [], ◌∷◌, ◌++◌, sym, ap, ◌∙◌}
use Rattle.std.proofs.lemmas.List.{append_assoc}
use Rattle.occam_parser.specs.declared.tree.Choice.{Choice}
use Rattle.code_generator.proofs.ChoicesWritten.{none_ended, stops_ended, always_ended, alone_ended, opens_ended}
use Rattle.code_generator.proofs.choices.EndedChoices.of.Goals as goal

pub returns-in_default-clause-ended : goal.returns-in_default-clause-ended
returns-in_default-clause-ended c = none_ended c.args.choices.now c.in_default.ensures.cases

pub returns-then-not-is_true-clause-ended : goal.returns-then-not-is_true-clause-ended
returns-then-not-is_true-clause-ended c =
    stops_ended c.args.choices.now c.in-Some.before.now c.in-Some.last.now c.in-Some.ensures.cases.0
    (sym c.is_true.ensures ∙ c.if-not-is_true.true)

pub returns-then-not-is_skip-clause-ended : goal.returns-then-not-is_skip-clause-ended
returns-then-not-is_skip-clause-ended c =
    always_ended c.args.choices.now c.in-Some.before.now c.in-Some.last c.in-Some.ensures.cases.0
    (sym c.is_true.ensures ∙ c.if-not-is_true.false) (sym c.is_skip.ensures ∙ c.if-not-is_skip.true)

pub returns-in_default-split_last-clause-ended : goal.returns-in_default-split_last-clause-ended
returns-in_default-split_last-clause-ended c =
    alone_ended c.args.choices.now c.in-Some.before.now c.in-Some.last c.in-Some.ensures.cases.0
    (sym c.is_true.ensures ∙ c.if-not-is_true.false) c.in_default-split_last.ensures.cases

pub returns-clause-ended : goal.returns-clause-ended
returns-clause-ended c =
    opens_ended c.args.choices.now c.in-Some.before.now c.in-Some-split_last.tested.now c.in-Some-split_last.opened
    c.in-Some.last c.in-Some.ensures.cases.0 c.in-Some-split_last.ensures.cases.0
    (sym c.is_true.ensures ∙ c.if-not-is_true.false) (sym c.is_skip.ensures ∙ c.if-not-is_skip.false)

pub returns-clause-whole : goal.returns-clause-whole
returns-clause-whole c =
    let last = c.in-Some.last.now in
    let opened = c.in-Some-split_last.opened.now in
    let tested = c.in-Some-split_last.tested.now in
    c.in-Some.ensures.cases.0 ∙ ap (λ (cs : List Choice). cs ++ last ∷ []) c.in-Some-split_last.ensures.cases.0
    ∙ append_assoc tested (opened ∷ []) (last ∷ [])
