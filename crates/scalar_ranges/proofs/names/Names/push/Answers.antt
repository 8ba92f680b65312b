use Rattle.std.proofs.Common.{◌≡◌, ℕ, List, [], ◌∷◌, ◌++◌, length, map, None, Some, set, ◌∙◌, sym, ap, arith}
use Rattle.std.proofs.lemmas.List.{get_or_read}
use Rattle.scalar_ranges.specs.Naming.{names_from, hides_from, hidden_by, spellings_from, spelling_of, number_of}
use Rattle.scalar_ranges.specs.Naming.{innermost_of}
use Rattle.scalar_ranges.specs.declared.names.Row.{Row}
use Rattle.scalar_ranges.proofs.Found.{numbered_of, found_more, names_more, hides_more, spellings_more, as_many}
use Rattle.scalar_ranges.proofs.names.Names.push.Goals as goal

pub invariant_of-self-2 : goal.invariant_of-self-2
invariant_of-self-2 c =
    let old = c.spelling.new.self in
    let name = c.args.name.now in
    let rows = old.rows.items in
    let innermost = old.innermost.items in
    let row : Row = record {
      name = c.args.name;
      spelling = c.in_ok-spelling.spelling;
      hides = c.replace-hides.result;
    } in
    let number = λ (q : List ℕ). spelling_of q old.spellings in
    let spelling = c.in_ok-spelling.spelling in
    let has : number name ≡ Some spelling = c.in_ok-spelling.ensures.number in
    let many = as_many rows in
    let below = old.within name spelling has in
    let count : c.len.result ≡ length (names_from rows) = omega arith in
    let longer = c.push_reserved.ensures.items ∙ ap (λ items. items ++ row ∷ []) c.reserve.ensures.items in
    let names = ap names_from longer ∙ names_more rows row in
    let hides : c.replace-hides.result ≡ number_of name (names_from rows) =
    c.replace-hides.ensures.value
    ∙ get_or_read innermost spelling c.index_mut.result.now (omega arith)
    c.index_mut.ensures.value None
    ∙ ap (λ n. innermost_of n innermost) (sym has) ∙ old.found name in
    record {
      found = λ q.
          ap (λ w. innermost_of (number q) (set innermost spelling w)) c.replace-hides.ensures.after
          ∙ (found_more number innermost (names_from rows) name spelling c.len.result count has
          (numbered_of old) (record { at = old.found })).at q
          ∙ ap (number_of q) (sym names);
      apart = old.apart;
      within = old.within;
      spelled = ap (map number) names ∙ (λ i. has i ∷ old.spelled i)
          ∙ ap (map Some) (sym (ap spellings_from longer ∙ spellings_more rows row));
      numbered = old.numbered;
      hides = ap hides_from longer ∙ hides_more rows row ∙ (λ i. hides i ∷ old.hides i) ∙ ap hidden_by (sym names);
    }
