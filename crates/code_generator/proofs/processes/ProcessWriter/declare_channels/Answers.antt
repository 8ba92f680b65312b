use Rattle.std.proofs.Common.{sym}
use Rattle.std.proofs.lemmas.List.{append-nil}
use Rattle.occam_parser.specs.OneOrMore.{as_list, one_or_more_of}
use Rattle.occam_parser.specs.LineViews.{spelling_of}
use Rattle.code_generator.proofs.DeclarationsWritten.{names_placed}
use Rattle.code_generator.proofs.processes.ProcessWriter.declare_channels.Goals as goal

pub returns : goal.returns
returns c =
    let s = c.args.self.now in
    let names = as_list (one_or_more_of spelling_of c.args.names.now.names) in
    record {
      code = sym (append-nil s.listing);
      site = names_placed names s c.add_names.new.self c.declare_names.new.scope c.in_ok-add_names.ensures
          c.channels_in-count.ensures c.in_ok-declare_names.ensures.entries c.channel_meaning-meaning.ensures
          c.in_ok-declare_names.ensures.blocks;
    }
