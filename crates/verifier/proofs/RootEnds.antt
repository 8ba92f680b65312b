-- The root holds the ends of the links that have a length.
use Rattle.std.proofs.Common.{◌≡◌, ℕ, zero, suc, ◌+◌, ◌-◌, ◌*◌, ◌%◌, ◌<◌, ◌≤◌, Bool, true, false, cond, if◌then◌else◌}
use Rattle.std.proofs.Common.{◌&&◌, ◌||◌, List, [], ◌∷◌, length, get_or, Option, Some, None, inl, inr, refl, sym, ap}
use Rattle.std.proofs.Common.{◌∙◌, subst, arith}
use Rattle.std.specs.Prelude.{nat_lt, ◌==◌, slice_get}
use Rattle.std.specs.List.{list_any}
use Rattle.std.proofs.lemmas.Bool.{le-leb, eq-eqb, cases_lt, and_parts, ltb-true, and_from}
use Rattle.std.proofs.lemmas.Bool.Decides.{leb_tells, eqb_tells}
use Rattle.std.proofs.lemmas.List.{get_or_past}
use Rattle.module_format.specs.declared.rows.EndKind.{EndKind}
use Rattle.module_format.specs.declared.rows.EndKind.TheVariants as kinds
use Rattle.module_format.specs.declared.rows.Direction.{Direction}
use Rattle.module_format.specs.declared.rows.Direction.TheVariants.{In, Out}
use Rattle.module_format.specs.Contents.{Contents, Par, Branch, link_length}
use Rattle.module_format.specs.Contexts.{first_branch}
use Rattle.module_format.specs.Pars.{key_of}
use Rattle.module_format.specs.Places.{branches_of}
use Rattle.certificate.specs.Branches.{numbered_branch}
use Rattle.certificate.specs.Rights as rights
use Rattle.machine_state.specs.declared.holding.End.{End}
use Rattle.machine_state.specs.Holding.{has_end, same_direction}
use Rattle.machine_state.specs.World.{link_word, link_words, output_word, link_ends_from, root_holding}
use Rattle.rulings.specs.Meaning.{Layout}
use Rattle.rulings.specs.Channels.{message_length}
use Rattle.rulings.specs.Regions.{channel_address}

-- the direction of a link
abbrev way : ℕ → Direction
way k = if nat_lt k 4 then Out else In

-- an end is among others
abbrev is_there : ℕ → Direction → List End → Bool
is_there address direction ends =
    list_any (λ held. (held.address == address) && same_direction held.direction direction) ends

same_way : (d : Direction) → same_direction d d ≡ true
same_way In = refl
same_way Out = refl

link_there : (from : ℕ) (ns : List ℕ) (k link : ℕ) → 0 < get_or ns k 0 → link ≡ from + k
    → is_there (link_words + 4 * link) (way link) (link_ends_from from ns) ≡ true
link_there from [] k link some at = absurd (omega arith)
link_there from (n ∷ ns) zero link some at =
    let here : from ≡ link = omega arith in
    ap (λ (b : Bool). is_there (link_words + 4 * link) (way link) (cond b (link_ends_from (from + 1) ns)
    (record { address = output_word from; direction = way from } ∷ link_ends_from (from + 1) ns))) (used n some)
    ∙ ap (λ (f : ℕ). ((output_word f == link_words + 4 * link) && same_direction (way f) (way link))
    || is_there (link_words + 4 * link) (way link) (link_ends_from (from + 1) ns)) here
    ∙ ap (λ (b : Bool). b || is_there (link_words + 4 * link) (way link) (link_ends_from (from + 1) ns))
    (and_from _ _ (eq-eqb (output_word link) (link_words + 4 * link) refl) (same_way (way link)))
  where
    used : (n : ℕ) → 0 < n → (n == 0) ≡ false
    used n some = elim (eqb_tells n 0) [ inl e ↦ absurd (let z = e.1 in omega arith) | inr e ↦ e.0 ]
link_there from (n ∷ ns) (suc k) link some at =
    let rest = link_there (from + 1) ns k link some (omega arith) in on_head (n == 0) rest
  where
    on_head : (b : Bool) → is_there (link_words + 4 * link) (way link) (link_ends_from (from + 1) ns) ≡ true
        → is_there (link_words + 4 * link) (way link) (cond b (link_ends_from (from + 1) ns)
        (record { address = output_word from; direction = way from } ∷ link_ends_from (from + 1) ns)) ≡ true
    on_head true rest = rest
    on_head false rest = or_later _ _ rest
      where
        or_later : (a b : Bool) → b ≡ true → (a || b) ≡ true
        or_later true b e = refl
        or_later false b e = e

module _ (m : Contents) (eight : length m.lengths ≡ 8) (layout : Layout) where
  no_branch : numbered_branch m 0 ≡ None
  no_branch = ap (λ (b : Bool). if b then None else slice_get (branches_of m.pars) (0 - first_branch m))
      (le-leb 1 (first_branch m) (omega arith))

  few : (link : ℕ) → 0 < get_or m.lengths link 0 → link < 8
  few link some = elim (cases_lt link (length m.lengths)) [
    | inl low ↦ omega (arith, eight)
    | inr high ↦ let none = get_or_past m.lengths link 0 high in absurd (omega arith)
  ]

  address : (link : ℕ) → link < 8 → link_words + 4 * link ≡ (link_words + 4 * link) % 4294967296
  address link low = omega arith

  -- an end of the root is that of a link that has a length
  record IsLinkEnd (kind : EndKind) (direction : Direction) : Type 0 where
    link : ℕ
    is : kind ≡ kinds.Link link
    used : 0 < get_or m.lengths link 0
    goes : way link ≡ direction

  root_end : (kind : EndKind) (direction : Direction)
      → rights.has_end m 0 (record { kind = kind; direction = direction }) ≡ true → IsLinkEnd kind direction
  root_end kind direction t =
      on_kind kind direction
      (sym (ap (λ (o : Option (Par × Branch)). elim o as (λ o. Bool) [
        | Some found ↦ list_any (λ other. rights.is_same_end (key_of other)
            (key_of (record { kind = kind; direction = direction }))) found.1.ends
        | None ↦ rights.gives_link m.lengths kind direction
      ]) no_branch) ∙ (and_parts _ _ t).1)
    where
      on_kind : (kind : EndKind) (direction : Direction) → rights.gives_link m.lengths kind direction ≡ true
          → IsLinkEnd kind direction
      on_kind (kinds.FrameWord word) direction gives = absurd (cc)
      on_kind (kinds.Parameter number element) direction gives = absurd (cc)
      on_kind (kinds.Link link) Out gives =
          let both = and_parts (nat_lt link 4) (nat_lt 0 (get_or m.lengths link 0)) gives in
          record {
            link = link;
            is = refl;
            used = ltb-true 0 (get_or m.lengths link 0) both.1;
            goes = ap (λ (b : Bool). if b then Out else In) both.0;
          }
      on_kind (kinds.Link link) In gives =
          let both = and_parts (nat_lt 3 link) (nat_lt 0 (get_or m.lengths link 0)) gives in
          let high = ltb-true 3 link both.0 in
          record {
            link = link;
            is = refl;
            used = ltb-true 0 (get_or m.lengths link 0) both.1;
            goes = ap (λ (b : Bool). if b then Out else In) (not_less link high);
          }
        where
          not_less : (link : ℕ) → 3 < link → nat_lt link 4 ≡ false
          not_less link high = elim (leb_tells (suc link) 4) [
            | inl e ↦ let u = e.1 in absurd (omega arith)
            | inr e ↦ e.0
          ]

  pub root_ends : (kind : EndKind) (direction : Direction)
      → rights.has_end m 0 (record { kind = kind; direction = direction }) ≡ true
      → has_end (root_holding m) (record { address = channel_address layout kind; direction = direction }) ≡ true
  root_ends kind direction t =
      let e = root_end kind direction t in
      subst (λ (kind : EndKind). has_end (root_holding m)
      (record { address = channel_address layout kind; direction = direction }) ≡ true) (sym e.is)
      (subst (λ (a : ℕ). is_there a direction (link_ends_from 0 m.lengths) ≡ true) (address e.link (few e.link e.used))
      (subst (λ (d : Direction). is_there (link_words + 4 * e.link) d (link_ends_from 0 m.lengths) ≡ true) e.goes
      (link_there 0 m.lengths e.link e.link e.used (omega arith))))

  -- each has one name
  pub root_differ : (a b : EndKind) (direction : Direction)
      → rights.has_end m 0 (record { kind = a; direction = direction }) ≡ true
      → rights.has_end m 0 (record { kind = b; direction = direction }) ≡ true
      → channel_address layout a ≡ channel_address layout b → a ≡ b
  root_differ a b direction t u same =
      let e = root_end a direction t in
      let f = root_end b direction u in
      let low = few e.link e.used in
      let high = few f.link f.used in
      let one : (link_words + 4 * e.link) % 4294967296 ≡ (link_words + 4 * f.link) % 4294967296 =
      sym (ap (channel_address layout) e.is) ∙ same ∙ ap (channel_address layout) f.is in
      let link : e.link ≡ f.link = omega arith in
      e.is ∙ ap kinds.Link link ∙ sym f.is

  -- messages have the length of the link
  pub root_lengths : ((link : ℕ) → link < 8 → layout.lengths ((link_words + 4 * link) % 4294967296)
      ≡ link_length m link)
      → (kind : EndKind) (direction : Direction)
      → rights.has_end m 0 (record { kind = kind; direction = direction }) ≡ true
      → message_length m 0 kind ≡ Some (layout.lengths (channel_address layout kind))
  root_lengths lengths kind direction t =
      let e = root_end kind direction t in
      subst (λ (kind : EndKind). message_length m 0 kind ≡ Some (layout.lengths (channel_address layout kind)))
      (sym e.is)
      (ap Some (sym (lengths e.link (few e.link e.used))))

one_way : (a b : Direction) → same_direction a b ≡ true → a ≡ b
one_way In In e = refl
one_way Out Out e = refl
one_way In Out e = absurd (cc)
one_way Out In e = absurd (cc)

-- each end that the root holds is that of a link
pub record IsOfLink (e : End) (from end : ℕ) : Type 0 where
  pub link : ℕ
  pub low : from ≤ link
  pub high : link < end
  pub is : e ≡ record { address = link_word link; direction = if nat_lt link 4 then Out else In }

pub held_link : (from : ℕ) (ns : List ℕ) (e : End) → is_there e.address e.direction (link_ends_from from ns) ≡ true
    → IsOfLink e from (from + length ns)
held_link from [] e held = absurd (cc)
held_link from (n ∷ ns) e held =
    on_head (n == 0) (λ rest. let r = held_link (from + 1) ns e rest in
    record { link = r.link; low = omega (arith, r.low); high = omega (arith, r.high); is = r.is }) held
  where
    on_first : (b : Bool) → ((output_word from == e.address) && same_direction (way from) e.direction) ≡ b
        → (is_there e.address e.direction (link_ends_from (from + 1) ns) ≡ true
        → IsOfLink e from (from + length (n ∷ ns)))
        → (b || is_there e.address e.direction (link_ends_from (from + 1) ns)) ≡ true
        → IsOfLink e from (from + length (n ∷ ns))
    on_first true here later held = elim (eqb_tells (output_word from) e.address) [
      | inl t ↦
          let goes = one_way (way from) e.direction (and_parts _ _ here).1 in
          record {
            link = from;
            low = omega arith;
            high = omega arith;
            is = λ i. record { address = sym t.1 i; direction = sym goes i };
          }
      | inr t ↦ let no' : false ≡ true = sym t.0 ∙ (and_parts _ _ here).0 in absurd (cc)
    ]
    on_first false here later held = later held

    on_head : (b : Bool) → (is_there e.address e.direction (link_ends_from (from + 1) ns) ≡ true
        → IsOfLink e from (from + length (n ∷ ns)))
        → is_there e.address e.direction (cond b (link_ends_from (from + 1) ns)
        (record { address = output_word from; direction = way from } ∷ link_ends_from (from + 1) ns)) ≡ true
        → IsOfLink e from (from + length (n ∷ ns))
    on_head true later held = later held
    on_head false later held = on_first _ refl later held
