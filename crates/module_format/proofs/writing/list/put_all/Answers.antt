use Rattle.std.proofs.Common.{sym, subst}
use Rattle.module_format.proofs.WritingLaws.{item_fits}
use Rattle.module_format.proofs.writing.list.put_all.Goals as goal

pub put-requires : goal.put-requires
put-requires g c = subst (λ x. g.T.Put.meaning.Fits (g.T.Put.meaning.view x)) (sym c.item-item.is)
    (item_fits g.T.Put.meaning.view g.T.Put.meaning.Fits c.args.items.now c.requires c.loop-item.item-index
    c.item-item.result c.loop-item-test.true)
