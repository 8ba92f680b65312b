use Rattle.std.proofs.Common.{◌≡◌, ℕ, List, [], ◌∷◌, ◌++◌, length, map, None, Some, ◌∙◌, sym, ap, subst, arith}
use Rattle.std.proofs.Common.{slice_index_or}
use Rattle.std.specs.Ordering.{nat_cmp}
use Rattle.std.specs.BTreeMap.{is_at}
use Rattle.std.specs.Cmp.Lexicographic.{slice_cmp}
use Rattle.std.specs.Map.{lookup}
use Rattle.std.proofs.lemmas.Map.Text.{btree_map_updates_str}
use Rattle.scalar_ranges.specs.Naming.{names_from, spellings_from, spelling_of, innermost_of}
use Rattle.scalar_ranges.proofs.Found.{numbered_of, Gets, found_new, numbered_new, spelled_new, keeps}
use Rattle.scalar_ranges.proofs.names.Names.new_spelling.Goals as goal

pub invariant_of-self-2 : goal.invariant_of-self-2
invariant_of-self-2 c =
    let old = c.args.self.now in
    let name = c.args.name.now in
    let innermost = old.innermost.items in
    let names = names_from old.rows.items in
    let number = λ (q : List ℕ). spelling_of q old.spellings in
    let after = λ (q : List ℕ). spelling_of q c.insert.new.self in
    let new : c.len-number.result ≡ length innermost = omega arith in
    let gets : Gets number name (length innermost) after = subst (λ n. Gets number name n after) new
    (record {
      none = c.requires;
      gives = btree_map_updates_str name old.spellings c.insert.new.self (Some c.len-number.result)
          c.in_ok-insert.ensures.updates;
    }) in
    let longer = c.push_reserved.ensures.items ∙ ap (λ items. items ++ None ∷ []) c.reserve.ensures.items in
    let more = numbered_new number after innermost name gets (numbered_of old) in
    record {
      found = λ q. ap (innermost_of (after q)) longer
          ∙ (found_new number after innermost names name gets (numbered_of old) (record { at = old.found })).at q;
      apart = more.apart;
      within = λ q n h.
          let below = more.within q n h in
          let long = ap length longer in
          omega arith;
      spelled = spelled_new number after name (length innermost) names (spellings_from old.rows.items) gets old.spelled;
      hides = old.hides;
      numbered = λ k d h.
          let s = slice_index_or old.by_number.items k d in
          keeps number after name (length innermost) s.name.now s.number gets (old.numbered k d h);
    }

pub invariant_of-self-in-Break-branch-2 : goal.invariant_of-self-in-Break-branch-2
invariant_of-self-in-Break-branch-2 c =
    let old = c.args.self.now in
    let kept = λ (q : List ℕ). ap (lookup (is_at (λ k. slice_cmp nat_cmp q k.now))) c.in_err-insert.ensures.err in
    let long = ap length c.reserve.ensures.items in
    record {
      found = λ q. ap (λ n. innermost_of n c.reserve.new.self.items) (kept q)
          ∙ ap (innermost_of (spelling_of q old.spellings)) c.reserve.ensures.items ∙ old.found q;
      apart = λ p q n one two. old.apart p q n (sym (kept p) ∙ one) (sym (kept q) ∙ two);
      within = λ q n h. let below = old.within q n (sym (kept q) ∙ h) in omega arith;
      spelled = ap (λ es. map (λ (q : List ℕ). lookup (is_at (λ k. slice_cmp nat_cmp q k.now)) es)
          (names_from old.rows.items)) c.in_err-insert.ensures.err ∙ old.spelled;
      hides = old.hides;
      numbered = λ k d h. kept (slice_index_or old.by_number.items k d).name.now ∙ old.numbered k d h;
    }
