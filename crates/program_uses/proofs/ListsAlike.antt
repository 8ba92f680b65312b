-- Lists serve in each scope with the outline of the one for which they were made.
use Rattle.std.proofs.Common.{◌≡◌, ℕ, zero, suc, ◌<◌, List, [], ◌∷◌, length, map, get_or, None, refl, sym}
use Rattle.std.proofs.Common.{subst, arith}
use Rattle.std.specs.Prelude.{fold}
use Rattle.occam_parser.specs.Lines.{Declaration, Replicator, block_word}
use Rattle.occam_parser.specs.Blocks.{Process, Declared, Does, Construct, Act, Block, Replicated, Body, One, Part}
use Rattle.occam_parser.specs.Blocks.{Components, NoComponent, Further, Component, Plain, Chosen, Guarded}
use Rattle.occam_parser.specs.BlockReading.{with_declarations}
use Rattle.occam_parser.specs.BlockViews.{all_of}
use Rattle.scalar_ranges.specs.Entries.{Entry}
use Rattle.program_uses.specs.declared.listing.ChangeLists.{ChangeLists}
use Rattle.program_uses.specs.Declaring.{add, add_declaration, add_outline}
use Rattle.program_uses.specs.Entering.{add_declarations}
use Rattle.program_uses.specs.Indices.{is_seq, index_meaning}
use Rattle.program_uses.specs.Listing.{IsListed, AreListed, ListsWithin, ListsBody, ListsComponents, ListsComponent}
use Rattle.program_uses.specs.Outlines.{outline}
use Rattle.program_uses.specs.Signatures.{Parameter}
use Rattle.program_uses.proofs.ChangesAlike.{added_alike, outlined_alike, construct_alike, declaring_keeps_outlines}

mutual
  pub lists_alike : (t : ChangeLists) (signatures : List (List Parameter)) (p : Process) (es fs : List Entry)
      → outline es ≡ outline fs → AreListed t signatures es p → AreListed t signatures fs p
  lists_alike t signatures (Declared d p) es fs same x =
      lists_alike t signatures p (add_outline d es) (add_outline d fs) (outlined_alike d es fs same) x
  lists_alike t signatures (Does line c) es fs same x = (
    subst (IsListed t line) (construct_alike signatures c es fs same) x.0,
    within_alike t signatures c es fs same x.1,
  )

  within_alike : (t : ChangeLists) (signatures : List (List Parameter)) (c : Construct) (es fs : List Entry)
      → outline es ≡ outline fs → ListsWithin t signatures es c → ListsWithin t signatures fs c
  within_alike t signatures (Act action) es fs same x = tt
  within_alike t signatures (Block kind cs) es fs same x = components_alike t signatures cs es fs same x
  within_alike t signatures (Replicated r b) es fs same x = body_alike t signatures r b es fs same x

  body_alike : (t : ChangeLists) (signatures : List (List Parameter)) (r : Replicator) (b : Body) (es fs : List Entry)
      → outline es ≡ outline fs → ListsBody t signatures es r b → ListsBody t signatures fs r b
  body_alike t signatures r (One kind c) es fs same x =
      let m = index_meaning (is_seq (block_word kind)) None in
      part_alike t signatures c (add r.name m es) (add r.name m fs) (added_alike r.name m m es fs refl same) x

  components_alike : {part : Part} (t : ChangeLists) (signatures : List (List Parameter)) (cs : Components part)
      (es fs : List Entry) → outline es ≡ outline fs → ListsComponents t signatures es cs
      → ListsComponents t signatures fs cs
  components_alike t signatures NoComponent es fs same x = tt
  components_alike t signatures (Further cs c) es fs same x =
      (components_alike t signatures cs es fs same x.0, part_alike t signatures c es fs same x.1)

  pub part_alike : {part : Part} (t : ChangeLists) (signatures : List (List Parameter)) (c : Component part)
      (es fs : List Entry) → outline es ≡ outline fs → ListsComponent t signatures es c
      → ListsComponent t signatures fs c
  part_alike t signatures (Plain p) es fs same x = lists_alike t signatures p es fs same x
  part_alike t signatures (Chosen line e p) es fs same x = lists_alike t signatures p es fs same x
  part_alike t signatures (Guarded line g p) es fs same x = lists_alike t signatures p es fs same x

-- ---- a construct after declarations

-- What is listed of a process serves where its construct begins, whatever is known of what is declared before it.
pub lists_behind : (t : ChangeLists) (signatures : List (List Parameter)) (ds : List Declaration) (line : ℕ)
    (c : Construct) (es fs : List Entry) → outline es ≡ outline fs
    → AreListed t signatures es (with_declarations ds (Does line c))
    → AreListed t signatures (add_declarations ds fs) (Does line c)
lists_behind t signatures [] line c es fs same x = lists_alike t signatures (Does line c) es fs same x
lists_behind t signatures (d ∷ ds) line c es fs same x =
    lists_behind t signatures ds line c (add_outline d es) (add_declaration d fs)
    (sym (declaring_keeps_outlines d fs es (sym same))) x

-- ---- one component of several

first_listed : {part : Part} (t : ChangeLists) (signatures : List (List Parameter)) (es : List Entry)
    (found : Components part) (cs : List (Component part)) → ListsComponents t signatures es (fold Further found cs)
    → ListsComponents t signatures es found
first_listed t signatures es found [] x = x
first_listed t signatures es found (c ∷ cs) x = (first_listed t signatures es (Further found c) cs x).0

one_listed : {part : Part} {A : Type 0} (t : ChangeLists) (signatures : List (List Parameter)) (es : List Entry)
    (f : A → Component part) (found : Components part) (xs : List A) (i : ℕ) (x : A) → i < length xs
    → x ≡ get_or xs i x → ListsComponents t signatures es (fold Further found (map f xs))
    → ListsComponent t signatures es (f x)
one_listed t signatures es f found [] i x h is all = absurd (omega (arith, h))
one_listed t signatures es f found (y ∷ xs) zero x h is all =
    subst (λ x. ListsComponent t signatures es (f x)) (sym is)
    (first_listed t signatures es (Further found (f y)) (map f xs) all).1
one_listed t signatures es f found (y ∷ xs) (suc i) x h is all =
    one_listed t signatures es f (Further found (f y)) xs i x (omega (arith, h)) is all

pub lists_one : {part : Part} {A : Type 0} (t : ChangeLists) (signatures : List (List Parameter)) (es : List Entry)
    (f : A → Component part) (xs : List A) (i : ℕ) (x : A) → i < length xs → x ≡ get_or xs i x
    → ListsComponents t signatures es (all_of (map f xs)) → ListsComponent t signatures es (f x)
lists_one t signatures es f xs i x h is all = one_listed t signatures es f NoComponent xs i x h is all
