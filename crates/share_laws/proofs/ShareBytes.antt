-- The bytes and ends of a share are those of the words, regions and ends that its row names.
use Rattle.std.proofs.Common.{◌≡◌, ℕ, ◌+◌, ◌*◌, ◌%◌, ◌^◌, ◌<◌, true, inl, inr, ℤ, pos, ◌+ℤ◌, List, [], ◌∷◌, ◌++◌, map}
use Rattle.std.proofs.Common.{Option, Some, None, FitsSigned, refl, sym, ap, ◌∙◌, subst, arith}
use Rattle.std.proofs.lemmas.Int.{ints, of_z-to_z}
use Rattle.std.proofs.lemmas.Option.{slice_get_within}
use Rattle.std.specs.Int.{w32, cast_unsigned}
use Rattle.std.specs.Prelude.{slice_get, nat_abs, IsTrue}
use Rattle.std.specs.List.{list_any, flat_map}
use Rattle.module_format.specs.declared.rows.Interval.{Interval}
use Rattle.module_format.specs.declared.rows.Parameter.{Parameter}
use Rattle.module_format.specs.declared.rows.EndKind.{EndKind}
use Rattle.module_format.specs.declared.rows.EndKind.TheVariants as ends
use Rattle.module_format.specs.declared.rows.EndRow.{EndRow}
use Rattle.module_format.specs.Contents.{Contents}
use Rattle.module_format.specs.Contexts.{parameters_at}
use Rattle.module_format.specs.Keeping.{Keeps, end_is_there}
use Rattle.module_format.specs.Pars.{EndKindKeeps}
use Rattle.machine_state.specs.declared.holding.End.{End}
use Rattle.machine_state.specs.BranchShares.{frame_address, words_of, region_of, address_of, end_named}
use Rattle.machine_state.specs.JoinLookups.{Found, row_names}
use Rattle.machine_state.specs.Memory.{place_of, data_start, local_address}
use Rattle.machine_state.specs.Ownership.{IsAmong}
use Rattle.machine_state.specs.Spans.{stretches_over}
use Rattle.machine_state.specs.World.{link_words, link_word}
use Rattle.rulings.specs.Meaning.{Layout, place_in}
use Rattle.rulings.specs.Reach.{is_listed}
use Rattle.rulings.specs.Regions.{channel_address}
use Rattle.rulings.proofs.Words.{local_word}
use Rattle.share_laws.specs.Shares.{IsBranch, IsLaidOut, IsListedByte, of_word, of_region, share_at, end_at, IsOfWords}
use Rattle.share_laws.specs.Shares.{SharesAreWords}
use Rattle.share_laws.proofs.Stretches.{any_either, any_first, any_second, AreProper, words_found, words_there}
use Rattle.share_laws.proofs.Stretches.{regions_found, regions_there}
use Rattle.share_laws.proofs.Rows.{HasElement, element_found, proper_writes, proper_reads, end_keeps, end_fits}
use Rattle.share_laws.proofs.Rows.{written_is_named, read_is_named, end_is_named}

-- ---- addresses

-- an address is below 2^32
address_bound : (base : ℕ) (word : ℤ) → frame_address base word < 2 ^ 32
unfolding local_address
address_bound base word = omega arith

-- a frame word has the address that it has in the layout
pub frame_channel : (layout : Layout) (base : ℕ) (word : ℤ) → pos base ≡ pos data_start +ℤ layout.origin
    → FitsSigned w32 word → frame_address base word ≡ channel_address layout (ends.FrameWord word)
frame_channel layout base word at fits =
    sym (of_z-to_z w32 (frame_address base word) (address_bound base word))
    ∙ ap (cast_unsigned w32) (local_word base word (pos data_start +ℤ place_in layout.origin word) fits
    (omega (arith, ints, at)))

-- a part of a sum may be taken modulo 2^32 first
around : (s t : ℕ) → (s % 2 ^ 32 + t) % 2 ^ 32 ≡ (s + t) % 2 ^ 32
around s t = omega arith

-- the word of a link does not go round
link_same : (link : ℕ) → link < 8 → link_word link ≡ (link_words + 4 * link) % 2 ^ 32
link_same link low = omega (arith, low)

-- nor does the place of an address change by going round
pub place_around : (s : ℕ) → place_of (s % 2 ^ 32) ≡ place_of s
unfolding place_of
place_around s = omega arith

-- ---- ends

-- the ends that rows name, each found
ends_are : (base : ℕ) (addresses : List (Option ℕ)) (layout : Layout) (es : List EndRow)
    → ((e : EndRow) → IsAmong e es → end_named base addresses e ≡ end_at layout e ∷ [])
    → flat_map (end_named base addresses) es ≡ map (end_at layout) es
ends_are base addresses layout [] each = refl
ends_are base addresses layout (e ∷ es) each =
    ap (λ (xs : List End). xs ++ flat_map (end_named base addresses) es) (each e (inl refl))
    ∙ ap (λ (xs : List End). end_at layout e ∷ xs) (ends_are base addresses layout es (λ x among. each x (inr among)))

module _ (m : Contents) (found : Found) (layout : Layout) (base : ℕ) (addresses : List (Option ℕ)) (keeps : Keeps m)
    (is : IsBranch m found) (laid : IsLaidOut m found.par layout base addresses) where
  abbrev parameters : List Parameter
  parameters = parameters_at m found.par.context

  -- each end of the branch is found
  end_is : (e : EndRow) → IsAmong e found.branch.ends → end_named base addresses e ≡ end_at layout e ∷ []
  end_is e among = on e.kind refl (end_keeps m found keeps is e among) (end_fits m found keeps is e among)
    where
      one : (a b : ℕ) → a ≡ b → ◌≡◌ {A = List End} (record { address = a; direction = e.direction } ∷ [])
          (record { address = b; direction = e.direction } ∷ [])
      one a b same = ap (λ (a : ℕ). let x : End = record { address = a; direction = e.direction } in x ∷ []) same

      by_kind : EndKind → List End
      by_kind kind = elim kind [
        | ends.FrameWord word ↦ record { address = frame_address base word; direction = e.direction } ∷ []
        | ends.Parameter number element ↦ elim (address_of addresses (nat_abs number)) [
          | None ↦ []
          | Some a ↦ record { address = (a + 4 * element) % 2 ^ 32; direction = e.direction } ∷ []
        ]
        | ends.Link link ↦ record { address = link_word link; direction = e.direction } ∷ []
      ]

      of_element : (number : ℤ) (element : ℕ) → e.kind ≡ ends.Parameter number element
          → HasElement parameters number element → by_kind (ends.Parameter number element)
          ≡ record { address = channel_address layout (ends.Parameter number element); direction = e.direction } ∷ []
      of_element number element kind h = subst
          (λ (z : ℤ). by_kind (ends.Parameter z element)
          ≡ record { address = channel_address layout (ends.Parameter z element); direction = e.direction } ∷ [])
          (sym h.is)
          (ap (λ (o : Option ℕ). elim o as (λ o. List End) [
            | None ↦ []
            | Some a ↦ record { address = (a + 4 * element) % 2 ^ 32; direction = e.direction } ∷ []
          ]) (laid.named h.j (end_is_named m found keeps is h.j element e
          (kind ∙ ap (λ (z : ℤ). ends.Parameter z element) h.is) among)
          (slice_get_within parameters h.j h.p h.found))
          ∙ one _ _ (around (layout.starts h.j) (4 * element)))

      on : (kind : EndKind) → e.kind ≡ kind → EndKindKeeps kind → IsTrue (end_is_there parameters kind)
          → by_kind kind ≡ record { address = channel_address layout kind; direction = e.direction } ∷ []
      on (ends.FrameWord word) kind k f = one _ _ (frame_channel layout base word laid.origin k)
      on (ends.Parameter number element) kind k f = of_element number element kind (element_found parameters number
          element f)
      on (ends.Link link) kind k f = one _ _ (link_same link k)

  -- ---- bytes

  module _ (words : List Interval) (numbers : List ℕ) (proper : AreProper words)
      (named : (j : ℕ) → is_listed numbers j ≡ true → row_names found.par j ≡ true) where
    address_is : (j : ℕ) (p : Parameter) → is_listed numbers j ≡ true → slice_get parameters j ≡ Some p
        → address_of addresses j ≡ Some (layout.starts j % 2 ^ 32)
    address_is j p listed here = laid.named j (named j listed) (slice_get_within parameters j p here)

    byte_listed : (place : ℕ) → list_any (λ s. stretches_over s place)
        (map (words_of base) words ++ flat_map (region_of parameters addresses) numbers) ≡ true
        → IsListedByte parameters layout words numbers place
    byte_listed place h = elim (any_either (λ s. stretches_over s place) (map (words_of base) words)
        (flat_map (region_of parameters addresses) numbers) h) [
          | inl word ↦ let w = words_found base layout.origin laid.origin words place proper word in of_word w.0 w.1 w.2
          | inr region ↦
              let r = regions_found parameters addresses numbers place region in
              let e : Some r.address ≡ Some (layout.starts r.j % 2 ^ 32) =
              sym r.at ∙ address_is r.j r.p r.listed r.found in
              let same : r.address ≡ layout.starts r.j % 2 ^ 32 = cc in
              let there : place_of r.address ≡ place_of (layout.starts r.j) =
              ap place_of same ∙ place_around (layout.starts r.j) in
              let low = r.low in
              let high = r.high in
              of_region r.j r.p r.listed r.found (omega (arith, there, low)) (omega (arith, there, high))
        ]

    listed_byte : (place : ℕ) → IsListedByte parameters layout words numbers place
        → list_any (λ s. stretches_over s place)
        (map (words_of base) words ++ flat_map (region_of parameters addresses) numbers) ≡ true
    listed_byte place (of_word k among b) = any_first (λ s. stretches_over s place) (map (words_of base) words)
        (flat_map (region_of parameters addresses) numbers)
        (words_there base layout.origin laid.origin words k place among b)
    listed_byte place (of_region j p listed here low high) =
        let there = place_around (layout.starts j) in
        any_second (λ s. stretches_over s place) (map (words_of base) words)
        (flat_map (region_of parameters addresses) numbers)
        (regions_there parameters addresses numbers j place (layout.starts j % 2 ^ 32) p listed here
        (address_is j p listed here) (omega (arith, there, low)) (omega (arith, there, high)))

  -- the share is of words
  pub share_is_of_words : IsOfWords m found layout (share_at m found base addresses)
  share_is_of_words = record {
    written = λ place h. byte_listed found.branch.writes found.branch.written_parameters
        (proper_writes m found keeps is) (written_is_named m found keeps is) place h;
    writes = λ place h. listed_byte found.branch.writes found.branch.written_parameters
        (proper_writes m found keeps is) (written_is_named m found keeps is) place h;
    read = λ place h. byte_listed found.branch.reads found.branch.read_parameters
        (proper_reads m found keeps is) (read_is_named m found keeps is) place h;
    reads = λ place h. listed_byte found.branch.reads found.branch.read_parameters
        (proper_reads m found keeps is) (read_is_named m found keeps is) place h;
    ends = ends_are base addresses layout found.branch.ends end_is;
  }

-- so of each branch
pub shares_are_words : SharesAreWords
shares_are_words m found layout base addresses keeps is laid =
    share_is_of_words m found layout base addresses keeps is laid
