-- Ends that are looked at one by one.
use Rattle.std.proofs.Common.{◌≡◌, ℕ, ◌+◌, ◌<◌, ◌&&◌, ◌||◌, not, Bool, true, false, List, [], ◌∷◌, ◌++◌, take, drop}
use Rattle.std.proofs.Common.{get_or, length, map, cond, refl, sym, ap, ◌∙◌, append_assoc}
use Rattle.std.proofs.lemmas.Bool.{and_parts, and_from, and_right, or_left, not_from_true, not_from_false, eqb-true}
use Rattle.std.proofs.lemmas.Bool.{cond-true, cond-false}
use Rattle.std.proofs.lemmas.List.{take_more, drop_more, take-append-drop}
use Rattle.std.proofs.lemmas.List.Folds.{list_any-append}
use Rattle.std.specs.Prelude.{◌==◌}
use Rattle.small_laws.proofs.Comparisons.{eqb_comm}
use Rattle.module_format.specs.declared.rows.Direction.{Direction}
use Rattle.module_format.specs.declared.rows.Direction.TheVariants.{In, Out}
use Rattle.module_format.specs.declared.rows.ChannelRow.{ChannelRow}
use Rattle.machine_state.specs.declared.holding.End.{End}
use Rattle.machine_state.specs.Holding.{same_direction}
use Rattle.machine_state.specs.StartPlans.{with_ends}
use Rattle.machine_state.specs.Spans.{differ, is_among_ends, is_same_end}

-- ---- one end

-- whether two directions are the same
same_direction-sym : (a b : Direction) → same_direction a b ≡ same_direction b a
same_direction-sym In In = refl
same_direction-sym In Out = refl
same_direction-sym Out In = refl
same_direction-sym Out Out = refl

same_direction-true : (a b : Direction) → same_direction a b ≡ true → a ≡ b
same_direction-true In In h = refl
same_direction-true In Out h = absurd (cc)
same_direction-true Out In h = absurd (cc)
same_direction-true Out Out h = refl

-- whether two ends are the same
is_same_end-sym : (a b : End) → is_same_end a b ≡ is_same_end b a
is_same_end-sym a b =
    ap (λ (t : Bool). t && same_direction a.direction b.direction) (eqb_comm a.address b.address)
    ∙ ap (λ (t : Bool). (b.address == a.address) && t) (same_direction-sym a.direction b.direction)

is_same_end-true : (a b : End) → is_same_end a b ≡ true → a ≡ b
is_same_end-true a b h =
    let both = and_parts (a.address == b.address) (same_direction a.direction b.direction) h in
    let address : a.address ≡ b.address = eqb-true a.address b.address both.0 in
    let direction : a.direction ≡ b.direction = same_direction-true a.direction b.direction both.1 in
    ap (λ (x : ℕ). let e : End = record { address = x; direction = a.direction } in e) address
    ∙ ap (λ (x : Direction). let e : End = record { address = b.address; direction = x } in e) direction

-- ---- ends that differ

-- ends with one after them differ where they do and it is none of them
differ_push : (ends : List End) (end : End)
    → differ (ends ++ end ∷ []) ≡ (differ ends && not (is_among_ends ends end))
differ_push [] end = refl
differ_push (first ∷ ends) end =
    ap (λ (t : Bool). not t && differ (ends ++ end ∷ [])) (list_any-append (is_same_end first) ends (end ∷ []))
    ∙ (ap (λ (t : Bool). not (is_among_ends ends first || (t || false)) && differ (ends ++ end ∷ []))
    (is_same_end-sym first end)
    ∙ (ap (λ (t : Bool). not (is_among_ends ends first || (is_same_end end first || false)) && t) (differ_push ends end)
    ∙ regroup (is_among_ends ends first) (is_same_end end first) (differ ends) (is_among_ends ends end)))
  where
    regroup : (a b c d : Bool) → (not (a || (b || false)) && (c && not d)) ≡ ((not a && c) && not (b || d))
    regroup true b c d = refl
    regroup false true true d = refl
    regroup false true false d = refl
    regroup false false c d = refl

-- the same of the next end of a list
differ_more : (ends : List End) (i : ℕ) (d : End) → i < length ends
    → differ (take (i + 1) ends) ≡ (differ (take i ends) && not (is_among_ends (take i ends) (get_or ends i d)))
differ_more ends i d h = ap differ (take_more ends i d h) ∙ differ_push (take i ends) (get_or ends i d)

-- the next end is none of those in front
pub differ_with : (ends : List End) (i : ℕ) (d : End) → i < length ends → differ (take i ends) ≡ true
    → is_among_ends (take i ends) (get_or ends i d) ≡ false → differ (take (i + 1) ends) ≡ true
differ_with ends i d h front new =
    differ_more ends i d h ∙ and_from _ _ front (not_from_false _ new)

-- where some in front do not differ, all do not
differ_front : (ends others : List End) → differ ends ≡ false → differ (ends ++ others) ≡ false
differ_front [] others h = absurd (cc)
differ_front (end ∷ ends) others h =
    ap (λ (t : Bool). not t && differ (ends ++ others)) (list_any-append (is_same_end end) ends others)
    ∙ on (is_among_ends ends end) h (differ_front ends others)
  where
    on : (listed : Bool) → (not listed && differ ends) ≡ false
        → (differ ends ≡ false → differ (ends ++ others) ≡ false)
        → (not (listed || is_among_ends others end) && differ (ends ++ others)) ≡ false
    on true h rest = refl
    on false h rest = last (is_among_ends others end) (rest h)
      where
        last : (t : Bool) → differ (ends ++ others) ≡ false → (not t && differ (ends ++ others)) ≡ false
        last true e = refl
        last false e = e

-- the next end is among those in front
pub differ_stops : (ends : List End) (i : ℕ) (d : End) → i < length ends
    → is_among_ends (take i ends) (get_or ends i d) ≡ true → differ ends ≡ false
differ_stops ends i d h old =
    ap differ (sym (take-append-drop (i + 1) ends))
    ∙ differ_front (take (i + 1) ends) (drop (i + 1) ends)
    (differ_more ends i d h ∙ and_right (differ (take i ends)) _ (not_from_true _ old))

-- ---- the ends of channels

abbrev pub input : ℕ → End
input a = record { address = a; direction = In }

abbrev pub output : ℕ → End
output a = record { address = a; direction = Out }

-- with both ends of a channel, as many that receive are listed as with the one of them that does
pub with_channel : (ends : List End) (a b : ℕ)
    → is_among_ends ((ends ++ input b ∷ []) ++ output b ∷ []) (input a)
    ≡ (is_among_ends ends (input a) || is_same_end (input a) (input b))
with_channel ends a b =
    list_any-append (is_same_end (input a)) (ends ++ input b ∷ []) (output b ∷ [])
    ∙ (ap (λ (t : Bool). t || (((a == b) && false) || false))
    (list_any-append (is_same_end (input a)) ends (input b ∷ []))
    ∙ on (is_among_ends ends (input a)) (a == b))
  where
    on : (t u : Bool) → ((t || ((u && true) || false)) || ((u && false) || false)) ≡ (t || (u && true))
    on true u = refl
    on false true = refl
    on false false = refl

-- where an end is listed already, it adds none
pub with_listed : (ends : List End) (a b : End) → is_among_ends ends b ≡ true
    → (is_among_ends ends a || is_same_end a b) ≡ is_among_ends ends a
with_listed ends a b listed = on (is_same_end a b) refl
  where
    plain : (t : Bool) → (t || false) ≡ t
    plain true = refl
    plain false = refl

    on : (t : Bool) → is_same_end a b ≡ t → (is_among_ends ends a || t) ≡ is_among_ends ends a
    on true e =
        let here : is_among_ends ends a ≡ true = ap (is_among_ends ends) (is_same_end-true a b e) ∙ listed in
        or_left (is_among_ends ends a) true here ∙ sym here
    on false e = plain (is_among_ends ends a)

-- the ends of one more channel, which has this address
module _ (channels : List ChannelRow) (address : ChannelRow → ℕ) (i : ℕ) (d : ChannelRow) (h : i < length channels)
    (ends : List End) (a : ℕ) (e : a ≡ address (get_or channels i d)) where
  next : with_ends (map address (drop i channels)) ends ≡ with_ends (map address (drop (i + 1) channels))
      (cond (is_among_ends ends (input a)) ends (ends ++ input a ∷ output a ∷ []))
  next =
      ap (λ (l : List ChannelRow). with_ends (map address l) ends) (drop_more channels i d h)
      ∙ ap (λ (b : ℕ). with_ends (map address (drop (i + 1) channels))
      (cond (is_among_ends ends (input b)) ends (ends ++ input b ∷ output b ∷ []))) (sym e)

  pub channel_is_new : is_among_ends ends (input a) ≡ false
      → with_ends (map address (drop (i + 1) channels)) ((ends ++ input a ∷ []) ++ output a ∷ [])
      ≡ with_ends (map address (drop i channels)) ends
  channel_is_new new =
      ap (with_ends (map address (drop (i + 1) channels)))
      (append_assoc ends (input a ∷ []) (output a ∷ []) ∙ sym (cond-false _ ends _ new)) ∙ sym next

  pub channel_is_there : is_among_ends ends (input a) ≡ true
      → with_ends (map address (drop (i + 1) channels)) ends ≡ with_ends (map address (drop i channels)) ends
  channel_is_there there =
      ap (with_ends (map address (drop (i + 1) channels))) (sym (cond-true _ ends _ there)) ∙ sym next
