use Rattle.std.proofs.Common.{ap, Err}
use Rattle.std.specs.Prelude.{string_bytes}
use Rattle.verifier.specs.declared.stop.Breach.{Breach}
use Rattle.verifier.specs.Walking.{before_of, walked}
use Rattle.explanation_parts.specs.Seen.{seen}
use Rattle.explanations.specs.declared.explaining.Told.TheVariants.{All}
use Rattle.explanations.proofs.Explains.{is_last}
use Rattle.explanations.proofs.explaining.tell_last.Goals as goal

pub returns : goal.returns
returns c =
    let a = c.args.arrival.now in (
      is_last c.args.module.now (walked c.args.walk.now) a.at a.instr (before_of c.args.walk.now)
          (before_of c.enter_unless.new.walk) (seen c.state.result) (seen c.state-2.result) c.args.setting c.args.rule
          a.entered c.is_at_entry-at_entry.result (string_bytes c.args.text.now) (string_bytes c.push_sight.new.text)
          (string_bytes c.push_breach.new.text) c.requires.same c.requires.entered c.is_at_entry-at_entry.ensures
          c.enter_unless.ensures c.state.ensures c.state-2.ensures c.in_ok-push_sight.ensures
          c.in_ok-push_breach.ensures,
      ap (λ (b : Breach). All (Err b)) c.broken.ensures,
    )
