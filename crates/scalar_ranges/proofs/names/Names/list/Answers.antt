use Rattle.std.proofs.Common.{◌≡◌, [], ◌∷◌, ◌++◌, Some, ◌∙◌, sym, ap, subst}
use Rattle.std.specs.List.{All}
use Rattle.std.proofs.lemmas.List.Elements.{All-push}
use Rattle.scalar_ranges.specs.Naming.{spelling_of}
use Rattle.scalar_ranges.specs.declared.names.Spelling.{Spelling}
use Rattle.scalar_ranges.proofs.names.Names.list.Goals as goal

pub invariant_of-self-2 : goal.invariant_of-self-2
invariant_of-self-2 c =
    let old = c.args.self.now in
    let spelling = c.args.spelling in
    let P = λ (s : Spelling). spelling_of s.name.now old.spellings ≡ Some s.number in
    let longer = c.push_reserved.ensures.items ∙ ap (λ items. items ++ spelling ∷ []) c.reserve.ensures.items in
    record {
      found = old.found;
      apart = old.apart;
      within = old.within;
      spelled = old.spelled;
      hides = old.hides;
      numbered = subst (All P) (sym longer) (All-push P old.by_number.items spelling old.numbered c.requires);
    }
