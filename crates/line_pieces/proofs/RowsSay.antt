-- What a row says, name by name from the outermost one on.
use Rattle.std.proofs.Common.{◌≡◌, ℕ, ◌+◌, ◌<◌, ◌≤◌, List, [], ◌∷◌, ◌++◌, length, take, get_or, reverse, Option}
use Rattle.std.proofs.Common.{refl, sym, ap, arith, ◌∙◌}
use Rattle.std.proofs.lemmas.List.{append_assoc, append-nil, length-take, length-map, map_push, reverse-reverse}
use Rattle.std.proofs.lemmas.List.{take_all}
use Rattle.scalar_ranges.specs.Entries.{Entry, entry_at}
use Rattle.scalar_ranges.specs.Environments.{item_at}
use Rattle.scalar_ranges.proofs.Numbered.{reverse_entry}
use Rattle.program_uses.proofs.Adding.{taken_one}
use Rattle.line_pieces.specs.declared.home.Home as code_home
use Rattle.code_pieces.specs.declared.piece.RowEntry.{RowEntry}
use Rattle.line_pieces.specs.HomeViews.{home_seen, homes_seen}
use Rattle.line_pieces.specs.Homes.{Home, facts_at, facts_here, facts_from}

facts_push : (hs : List Home) (h : Home) (es : List Entry)
    → facts_from (hs ++ h ∷ []) es ≡ facts_from hs es ++ facts_here h (item_at (length hs) es)
facts_push [] h [] = refl
facts_push [] h (e ∷ es) = append-nil (facts_at h e.meaning)
facts_push (g ∷ hs) h [] = refl
facts_push (g ∷ hs) h (e ∷ es) =
    ap (λ r. facts_at g e.meaning ++ r) (facts_push hs h es)
    ∙ sym (append_assoc (facts_at g e.meaning) (facts_from hs es) (facts_here h (item_at (length hs) es)))

item_reversed : (n : ℕ) (es : List Entry) → item_at n (reverse es) ≡ entry_at n es
item_reversed n es = sym (reverse_entry n (reverse es)) ∙ ap (entry_at n) (reverse-reverse es)

-- The loop over the names has gone over one name more.
pub facts_next : (hs : List code_home.Home) (es : List Entry) (i : ℕ) (h : code_home.Home) (found : Option Entry)
    (before after : List RowEntry) → i < length hs → h ≡ get_or hs i h → found ≡ entry_at i es
    → before ≡ facts_from (homes_seen (take i hs)) (reverse es) → after ≡ before ++ facts_here (home_seen h) found
    → after ≡ facts_from (homes_seen (take (i + 1) hs)) (reverse es)
facts_next hs es i h found before after low is at b a =
    let many : length (homes_seen (take i hs)) ≡ i = simp (length-map, length-take) (omega arith) in
    let grown : homes_seen (take (i + 1) hs) ≡ homes_seen (take i hs) ++ home_seen h ∷ [] =
    ap homes_seen (taken_one hs i h h low is) ∙ map_push home_seen (take i hs) h in
    let here : found ≡ item_at (length (homes_seen (take i hs))) (reverse es) =
    at ∙ sym (item_reversed i es) ∙ ap (λ n. item_at n (reverse es)) (sym many) in
    a ∙ (λ j. b j ++ facts_here (home_seen h) (here j))
    ∙ sym (facts_push (homes_seen (take i hs)) (home_seen h) (reverse es))
    ∙ ap (λ xs. facts_from xs (reverse es)) (sym grown)

-- It has gone over all of them.
pub facts_done : (hs : List code_home.Home) (es : List Entry) (i : ℕ) (after : List RowEntry) → length hs ≤ i
    → after ≡ facts_from (homes_seen (take i hs)) (reverse es) → after ≡ facts_from (homes_seen hs) (reverse es)
facts_done hs es i after all a = a ∙ ap (λ xs. facts_from (homes_seen xs) (reverse es)) (take_all i hs all)
