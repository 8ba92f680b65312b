use Rattle.std.proofs.Common.{ℕ, List, ap, ◌∙◌}
use Rattle.scalar_ranges.specs.Naming.{names_from, spelling_of, number_of}
use Rattle.scalar_ranges.proofs.Found.{numbered_of, found_less, names_more, before}
use Rattle.scalar_ranges.proofs.names.Names.pop.Goals as goal

pub invariant_of-self : goal.invariant_of-self
invariant_of-self c =
    let old = c.args.self.now in
    let rows = c.pop.new.self.items in
    let row = c.in-Some.row in
    let number = λ (q : List ℕ). spelling_of q old.spellings in
    let all = c.in-Some.ensures.items in
    let known = before number old.rows.items rows row all old.spelled old.hides in
    let names = ap names_from all ∙ names_more rows row in
    record {
      found = (found_less number old.innermost.items (names_from rows) row.name.now row.spelling row.hides known.hides
          known.has (numbered_of old) (record { at = λ q. old.found q ∙ ap (number_of q) names })).at;
      apart = old.apart;
      within = old.within;
      spelled = known.spelled;
      hides = known.further;
      numbered = old.numbered;
    }
