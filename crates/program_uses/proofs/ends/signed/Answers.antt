use Rattle.std.proofs.Common.{◌≡◌, length, map, ap, sym, ◌∙◌, rules}
use Rattle.std.proofs.lemmas.List.{length-map}
use Rattle.std.specs.Prelude.{fold}
use Rattle.program_uses.specs.Ends.{with_end}
use Rattle.program_uses.specs.Sets.{members_of}
use Rattle.program_uses.specs.Signatures.{parameter_of}
use Rattle.program_uses.proofs.EndsPushed.{parameters_pushed}
use Rattle.program_uses.proofs.ends.signed.Goals as goal

pub returns : goal.returns
returns c =
    let qs = map parameter_of c.args.parameters.items in
    let long : c.len.result ≡ length c.args.parameters.items = search rules in
    c.in_ok-add_ends.ensures ∙ ap (fold (with_end c.args.first) qs) c.in_ok-ends.ensures
    ∙ parameters_pushed c.args.first _ qs (members_of c.args.used.now)
    (long ∙ sym (length-map c.args.parameters.items parameter_of))
