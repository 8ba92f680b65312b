-- Pieces with labels of their own, put together.
use Rattle.std.proofs.Common.{◌≡◌, ◌≤◌, ℕ, ◌+◌, List, [], ◌∷◌, ◌++◌, sym, arith, subst}
use Rattle.code_pieces.specs.declared.piece.RowEntry.{RowEntry}
use Rattle.code_pieces.specs.Pieces.{Piece, Jump, JumpUnless, LoopBack, Row, points}
use Rattle.placed_code.specs.LaidCode.{labels_in}
use Rattle.meant_code.specs.Labels.{times_in, EachOnce, AreStraight, ArePlain}
use Rattle.meant_code.specs.OwnCode.{AreOwn}
use Rattle.meant_code.proofs.LabelLists.{times_both, labels_both, times_in_both, none_once, one_once, both_once}
use Rattle.meant_code.proofs.LabelLists.{ordered_once, Among, lead_more, lead_both, no_labels, straight_are_plain}
use Rattle.meant_code.proofs.LabelLists.{straight_lead}
use Rattle.meant_code.proofs.LinesHave.{counted_is}

pub plain_both : (ps qs : List Piece) → ArePlain ps → ArePlain qs → ArePlain (ps ++ qs)
plain_both [] qs first second = second
plain_both (p ∷ ps) qs first second = (first.0, plain_both ps qs first.1 second)

pub own_straight : (n : ℕ) (after : List ℕ) (ps : List Piece) → AreStraight ps → AreOwn n n after ps
own_straight n after ps are = record {
  once = subst (EachOnce n n) (sym (no_labels ps are)) (none_once n);
  plain = straight_are_plain ps are;
  lead = straight_lead [] after ps are;
}

-- where there is more after them
pub own_more : (a b : ℕ) (after further : List ℕ) (ps : List Piece) → Among after further → AreOwn a b after ps
    → AreOwn a b further ps
own_more a b after further ps more own = record {
  once = own.once;
  plain = own.plain;
  lead = lead_more [] after [] further ps (λ l there. there) more own.lead;
}

-- what is among some is among these and others
among_both : (ls ms : List ℕ) → Among ls (ms ++ ls)
among_both ls ms l there =
    let sum = times_both l ms ls in
    omega (arith, there, sum)

nothing : (ls : List ℕ) → Among [] ls
nothing ls l there = absurd (omega (arith, there))

pub own_anywhere : (a b : ℕ) (after : List ℕ) (ps : List Piece) → AreOwn a b [] ps → AreOwn a b after ps
own_anywhere a b after ps own = own_more a b [] after ps (nothing after) own

pub own_both : (a b c : ℕ) (after : List ℕ) (ps qs : List Piece) → AreOwn a b after ps → AreOwn b c after qs
    → AreOwn a c after (ps ++ qs)
own_both a b c after ps qs first second = record {
  once = subst (EachOnce a c) (sym (labels_both ps qs))
      (both_once a b c (labels_in ps) (labels_in qs) first.once second.once);
  plain = plain_both ps qs first.plain second.plain;
  lead = lead_both [] after ps qs
      (lead_more [] after [] (labels_in qs ++ after) ps (λ l there. there) (among_both after (labels_in qs))
      first.lead)
      (lead_more [] after (labels_in ps ++ []) after qs (nothing (labels_in ps ++ [])) (λ l there. there) second.lead);
}

pub own_row : (n : ℕ) (after : List ℕ) (entries : List RowEntry) → AreOwn n (n + 1) after (Row n entries ∷ [])
own_row n after entries = record { once = one_once n; plain = (tt, tt); lead = (tt, tt) }

-- a jump to what is after it
pub own_jump : (n to : ℕ) (after : List ℕ) → 1 ≤ times_in to after → AreOwn n n after (Jump to ∷ [])
own_jump n to after there = record { once = none_once n; plain = (tt, tt); lead = (there, tt) }

pub own_test : (n to : ℕ) (after : List ℕ) → 1 ≤ times_in to after → AreOwn n n after (JumpUnless to ∷ [])
own_test n to after there = record { once = none_once n; plain = (tt, tt); lead = (there, tt) }

-- A row after pieces has the label that is before theirs. They may jump there.
pub own_closed : (n to : ℕ) (after : List ℕ) (ps : List Piece) (entries : List RowEntry)
    → AreOwn (n + 1) to (n ∷ after) ps → AreOwn n to after (ps ++ Row n entries ∷ [])
own_closed n to after ps entries own = record {
  once = ordered_once n to (n ∷ labels_in ps) (labels_in (ps ++ Row n entries ∷ []))
      (λ l.
      let sum = times_in_both l ps (Row n entries ∷ []) in
      omega (arith, sum))
      (both_once n (n + 1) to (n ∷ []) (labels_in ps) (one_once n) own.once);
  plain = plain_both ps (Row n entries ∷ []) own.plain (tt, tt);
  lead = lead_both [] after ps (Row n entries ∷ []) own.lead (tt, tt);
}

-- A loop: its head, its body, and the end of a turn, which goes back to the head or on to the row after it.
pub own_loop : (n to word : ℕ) (after : List ℕ) (start body : List Piece) (head behind : List RowEntry)
    → AreStraight start → AreOwn (n + 2) to [] body
    → AreOwn n to after ((start ++ Row n head ∷ [])
    ++ (body ++ points word ∷ LoopBack n (n + 1) ∷ Row (n + 1) behind ∷ []))
own_loop n to word after start body head behind are own =
    let first = start ++ Row n head ∷ [] in
    let end : List Piece = points word ∷ LoopBack n (n + 1) ∷ Row (n + 1) behind ∷ [] in
    let begins : AreOwn n (n + 1) [] first =
    own_both n n (n + 1) [] start (Row n head ∷ []) (own_straight n [] start are) (own_row n [] head) in
    let next : n + 1 + 1 ≡ n + 2 = omega arith in
    let rows : EachOnce n (n + 2) (labels_in first ++ ((n + 1) ∷ [])) =
    both_once n (n + 1) (n + 2) (labels_in first) ((n + 1) ∷ []) begins.once
    (subst (λ (m : ℕ). EachOnce (n + 1) m ((n + 1) ∷ [])) next (one_once (n + 1))) in
    record {
      once = ordered_once n to ((labels_in first ++ ((n + 1) ∷ [])) ++ labels_in body)
          (labels_in (first ++ (body ++ end)))
          (λ l.
          let a = times_both l (labels_in first ++ ((n + 1) ∷ [])) (labels_in body) in
          let b = times_both l (labels_in first) ((n + 1) ∷ []) in
          let c = times_in_both l first (body ++ end) in
          let d = times_in_both l body end in
          omega (arith, a, b, c, d))
          (both_once n (n + 2) to (labels_in first ++ ((n + 1) ∷ [])) (labels_in body) rows own.once);
      plain = plain_both first (body ++ end) begins.plain
          (plain_both body end own.plain (counted_is word, (tt, (tt, tt))));
      lead = lead_both [] after first (body ++ end)
          (lead_more [] [] [] (labels_in (body ++ end) ++ after) first (λ l there. there)
          (nothing (labels_in (body ++ end) ++ after)) begins.lead)
          (lead_both (labels_in first ++ []) after body end
          (lead_more [] [] (labels_in first ++ []) (labels_in end ++ after) body (nothing (labels_in first ++ []))
          (nothing (labels_in end ++ after)) own.lead) (
            tt,
            (
              (
                let there = begins.once.inside n (omega arith) (omega arith) in
                    let a = times_both n (labels_in body) (labels_in first ++ []) in
                    let b = times_both n (labels_in first) [] in
                    omega (arith, there, a, b),
                let there = (one_once (n + 1)).inside (n + 1) (omega arith) (omega arith) in
                    omega (arith, there),
              ),
              (tt, tt),
            ),
          ));
    }
