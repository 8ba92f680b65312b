use Rattle.std.proofs.lemmas.List.{map-id}
use Rattle.module_format.specs.Order.{least_word}
use Rattle.module_format.specs.Pars.{behind_interval}
use Rattle.module_format.specs.Reading.{list_at}
use Rattle.module_format.specs.ReadingPars.{frame_words_at}
use Rattle.module_format.proofs.BranchLaws.{words_take}
use Rattle.module_format.proofs.ReadsInSteps.{list_takes}
use Rattle.module_format.proofs.TakingLaws.{took_has}
use Rattle.module_format.proofs.reading.branches.read_writes.Goals as goal

pub returns-clause-rise : goal.returns-clause-rise
returns-clause-rise c = λ still.
    let from = c.args.from.now in
    let new = c.read_list.new.from in
    let took = rw (c.from.ensures, map-id _) at c.read_list.ensures.took in
    (took_has
    (list_at (frame_words_at from.size) behind_interval c.args.count least_word) from.failure from.rest.now
    c.read_list.result.items new.failure new.rest.now still took
    (list_takes (words_take from.size) c.args.count least_word from.rest.now from.fits)).keeps.1
