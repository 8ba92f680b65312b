-- Bytes with tags, read and written by place.
use Rattle.std.proofs.Common.{◌≡◌, ℕ, zero, suc, ◌<◌, ◌≤◌, Bool, true, false, cond, List, [], ◌∷◌, ◌++◌, length}
use Rattle.std.proofs.Common.{get_or, set, replicate, map, Option, Some, None, refl, ap, ◌∙◌, arith}
use Rattle.std.proofs.lemmas.List.{set_past, append_assoc, length-replicate}
use Rattle.std.proofs.Common.{◌+◌, ◌-◌, ◌⊎◌, inl, inr, is_some, sym, subst, take, drop, drop-cons}
use Rattle.std.proofs.lemmas.Bool.Decides.{leb_tells}
use Rattle.std.specs.Option.{unwrap_or}
use Rattle.std.proofs.lemmas.Bool.{and_parts}
use Rattle.machine_state.specs.Memory.{Memory, byte_at}
use Rattle.machine_state.specs.Spans.{all_places}
use Rattle.machine_state.specs.Exchanges.{bytes_at}
use Rattle.machine_state.specs.Tagged.{tagged_cells}

pub length-tagged_cells : (bytes : List ℕ) (tags : List Bool) → length tags ≡ length bytes
    → length (tagged_cells bytes tags) ≡ length bytes
length-tagged_cells [] tags same = refl
length-tagged_cells (b ∷ bytes) [] same = same
length-tagged_cells (b ∷ bytes) (t ∷ tags) same = ap suc (length-tagged_cells bytes tags (omega arith))

pub tagged_cells-at : (bytes : List ℕ) (tags : List Bool) (p : ℕ) → length tags ≡ length bytes → p < length bytes
    → get_or (tagged_cells bytes tags) p None ≡ cond (get_or tags p false) (Some (get_or bytes p 0)) None
tagged_cells-at [] tags p same inside = absurd (omega arith)
tagged_cells-at (b ∷ bytes) [] p same inside = absurd (omega arith)
tagged_cells-at (b ∷ bytes) (t ∷ tags) zero same inside = refl
tagged_cells-at (b ∷ bytes) (t ∷ tags) (suc p) same inside = tagged_cells-at bytes tags p (omega arith) (omega arith)

pub tagged_cells_past : (bytes : List ℕ) (tags : List Bool) (p : ℕ) → length tags ≡ length bytes → length bytes ≤ p
    → get_or (tagged_cells bytes tags) p None ≡ None
tagged_cells_past [] tags p same past = refl
tagged_cells_past (b ∷ bytes) [] p same past = absurd (omega arith)
tagged_cells_past (b ∷ bytes) (t ∷ tags) zero same past = absurd (omega arith)
tagged_cells_past (b ∷ bytes) (t ∷ tags) (suc p) same past = tagged_cells_past bytes tags p (omega arith) (omega arith)

-- a byte is written and its tag is set
pub tagged_cells-set : (bytes : List ℕ) (tags : List Bool) (p b : ℕ) → length tags ≡ length bytes
    → tagged_cells (set bytes p b) (set tags p true) ≡ set (tagged_cells bytes tags) p (Some b)
tagged_cells-set [] tags p b same = refl
tagged_cells-set (a ∷ bytes) [] p b same = absurd (omega arith)
tagged_cells-set (a ∷ bytes) (t ∷ tags) zero b same = refl
tagged_cells-set (a ∷ bytes) (t ∷ tags) (suc p) b same = ap (◌∷◌ (cond t (Some a) None))
    (tagged_cells-set bytes tags p b (omega arith))

-- a write outside changes nothing
pub tagged_cells-set_past : (bytes : List ℕ) (tags : List Bool) (p : ℕ) (b : Option ℕ) → length tags ≡ length bytes
    → length bytes ≤ p → set (tagged_cells bytes tags) p b ≡ tagged_cells bytes tags
tagged_cells-set_past bytes tags p b same past =
    set_past (tagged_cells bytes tags) p b
    (let e : length (tagged_cells bytes tags) ≡ length bytes = length-tagged_cells bytes tags same in omega arith)

-- a tag is cleared
pub tagged_cells-clear : (bytes : List ℕ) (tags : List Bool) (p : ℕ) → length tags ≡ length bytes
    → tagged_cells bytes (set tags p false) ≡ set (tagged_cells bytes tags) p None
tagged_cells-clear [] tags p same = refl
tagged_cells-clear (a ∷ bytes) [] p same = absurd (omega arith)
tagged_cells-clear (a ∷ bytes) (t ∷ tags) zero same = refl
tagged_cells-clear (a ∷ bytes) (t ∷ tags) (suc p) same = ap (◌∷◌ (cond t (Some a) None))
    (tagged_cells-clear bytes tags p (omega arith))

pub ruleset length_of_cells = (length-tagged_cells)

pub ruleset byte_reads = (tagged_cells-at, tagged_cells_past)

pub ruleset byte_writes = (tagged_cells-set, tagged_cells-clear, tagged_cells-set_past)

-- ---- what is loaded

tagged_cells-append : (bytes more : List ℕ) (tags others : List Bool) → length tags ≡ length bytes
    → tagged_cells (bytes ++ more) (tags ++ others) ≡ tagged_cells bytes tags ++ tagged_cells more others
tagged_cells-append [] more [] others same = refl
tagged_cells-append [] more (t ∷ tags) others same = absurd (omega arith)
tagged_cells-append (b ∷ bytes) more [] others same = absurd (omega arith)
tagged_cells-append (b ∷ bytes) more (t ∷ tags) others same = ap (◌∷◌ (cond t (Some b) None))
    (tagged_cells-append bytes more tags others (omega arith))

tagged_cells-undefined : (n : ℕ) → tagged_cells (replicate n 0) (replicate n false) ≡ replicate n None
tagged_cells-undefined zero = refl
tagged_cells-undefined (suc n) = ap (◌∷◌ None) (tagged_cells-undefined n)

tagged_cells-defined : (bytes : List ℕ) → tagged_cells bytes (replicate (length bytes) true) ≡ map Some bytes
tagged_cells-defined [] = refl
tagged_cells-defined (b ∷ bytes) = ap (◌∷◌ (Some b)) (tagged_cells-defined bytes)

-- the data area is undefined, then the code, undefined padding, and the constants
pub tagged_cells_loaded : (size padding : ℕ) (code constants : List ℕ) →
    tagged_cells (replicate size 0 ++ code ++ replicate padding 0 ++ constants)
    (replicate size false ++ replicate (length code) true ++ replicate padding false ++ replicate
    (length constants) true)
    ≡ replicate size None ++ map Some code ++ replicate padding None ++ map Some constants
tagged_cells_loaded size padding code constants =
    simp (append_assoc) (
    tagged_cells-append (replicate size 0) (code ++ (replicate padding 0 ++ constants)) (replicate size false)
    (replicate (length code) true ++ (replicate padding false ++ replicate (length constants) true))
    (simp length-replicate)
    ∙ (ap (λ front. front ++ tagged_cells (code ++ (replicate padding 0 ++ constants))
    (replicate (length code) true ++ (replicate padding false ++ replicate (length constants) true)))
    (tagged_cells-undefined size)
    ∙ ap (λ rest. replicate size None ++ rest) (
    tagged_cells-append code (replicate padding 0 ++ constants) (replicate (length code) true)
    (replicate padding false ++ replicate (length constants) true) (simp length-replicate)
    ∙ (ap (λ front. front ++ tagged_cells (replicate padding 0 ++ constants)
    (replicate padding false ++ replicate (length constants) true)) (tagged_cells-defined code)
    ∙ ap (λ rest. map Some code ++ rest) (
    tagged_cells-append (replicate padding 0) constants (replicate padding false) (replicate (length constants) true)
    (simp length-replicate)
    ∙ (ap (λ front. front ++ tagged_cells constants (replicate (length constants) true))
    (tagged_cells-undefined padding)
    ∙ ap (λ rest. replicate padding None ++ rest) (tagged_cells-defined constants)))))))

-- ---- defined bytes, as they are lent

-- whether the byte at a place is defined
abbrev pub is_defined : List ℕ → List Bool → ℕ → Bool
is_defined bytes tags place = is_some (byte_at (tagged_cells bytes tags) place)

-- a byte that is defined lies inside, and is the one there
defined_byte : (bytes : List ℕ) (tags : List Bool) (place : ℕ) → length tags ≡ length bytes
    → is_defined bytes tags place ≡ true
    → (place < length bytes) × (byte_at (tagged_cells bytes tags) place ≡ Some (get_or bytes place 0))
defined_byte bytes tags place same defined = elim (leb_tells (suc place) (length bytes)) [
  | inl inside ↦ on_tag (get_or tags place false) refl (omega (arith, inside.1))
  | inr past ↦ not_there (tagged_cells_past bytes tags place same (omega (arith, past.1)))
]
  where
    not_there : byte_at (tagged_cells bytes tags) place ≡ None
        → (place < length bytes) × (byte_at (tagged_cells bytes tags) place ≡ Some (get_or bytes place 0))
    not_there none =
        let no' : true ≡ false = sym defined ∙ ap (λ (o : Option ℕ). is_some o) none in
        absurd (cc)

    on_tag : (b : Bool) → get_or tags place false ≡ b → place < length bytes
        → (place < length bytes) × (byte_at (tagged_cells bytes tags) place ≡ Some (get_or bytes place 0))
    on_tag true tag inside = (
      inside,
      tagged_cells-at bytes tags place same inside
          ∙ ap (λ (b : Bool). cond b (Some (get_or bytes place 0)) None) tag,
    )
    on_tag false tag inside = not_there (tagged_cells-at bytes tags place same inside
        ∙ ap (λ (b : Bool). cond b (Some (get_or bytes place 0)) None) tag)

lent_from : (bytes : List ℕ) (tags : List Bool) (place count : ℕ) → length tags ≡ length bytes
    → all_places (λ p. is_some (byte_at (tagged_cells bytes tags) p)) place count ≡ true
    → bytes_at (tagged_cells bytes tags) place count ≡ take count (drop place bytes)
unfolding all_places
lent_from bytes tags place zero same defined = refl
lent_from bytes tags place (suc n) same defined =
    let both = and_parts (is_defined bytes tags place)
    (all_places (λ p. is_some (byte_at (tagged_cells bytes tags) p)) (place + 1) n) defined in
    let here = defined_byte bytes tags place same both.0 in
    let next : place + 1 ≡ suc place = omega arith in
    ap (λ (o : Option ℕ). unwrap_or o 0 ∷ bytes_at (tagged_cells bytes tags) (place + 1) n) here.1
    ∙ ap (◌∷◌ (get_or bytes place 0)) (lent_from bytes tags (place + 1) n same both.1
    ∙ ap (λ (p : ℕ). take n (drop p bytes)) next)
    ∙ sym (ap (take (suc n)) (drop-cons bytes place 0 here.0))

-- `count` bytes of a memory, which bytes and tags of one length make, are defined
pub record Defines (cells : Memory) (bytes : List ℕ) (tags : List Bool) (place count : ℕ) : Type 0 where
  pub same : length tags ≡ length bytes
  pub made : tagged_cells bytes tags ≡ cells
  pub defined : all_places (λ p. is_some (byte_at cells p)) place count ≡ true

defined_bytes : {cells : Memory} (bytes : List ℕ) (tags : List Bool) (place count : ℕ)
    → Defines cells bytes tags place count
    → all_places (λ p. is_some (byte_at (tagged_cells bytes tags) p)) place count ≡ true
defined_bytes bytes tags place count d =
    subst (λ (m : Memory). all_places (λ p. is_some (byte_at m p)) place count ≡ true) (sym d.made) d.defined

pub lent : {cells : Memory} (bytes : List ℕ) (tags : List Bool) (place count : ℕ)
    → Defines cells bytes tags place count
    → take (place + count - place) (drop place bytes) ≡ bytes_at cells place count
lent bytes tags place count d =
    let all : place + count - place ≡ count = omega arith in
    ap (λ (n : ℕ). take n (drop place bytes)) all
    ∙ (sym (lent_from bytes tags place count d.same (defined_bytes bytes tags place count d))
    ∙ ap (λ (m : Memory). bytes_at m place count) d.made)

lent_within : (bytes : List ℕ) (tags : List Bool) (place count : ℕ) → length tags ≡ length bytes
    → all_places (λ p. is_some (byte_at (tagged_cells bytes tags) p)) place count ≡ true → 0 < count
    → place + count ≤ length bytes
unfolding all_places
lent_within bytes tags place zero same defined some = absurd (omega arith)
lent_within bytes tags place (suc zero) same defined some =
    let both = and_parts (is_defined bytes tags place) true defined in
    let here = defined_byte bytes tags place same both.0 in
    omega (arith, here.0)
lent_within bytes tags place (suc (suc n)) same defined some =
    let both = and_parts (is_defined bytes tags place)
    (all_places (λ p. is_some (byte_at (tagged_cells bytes tags) p)) (place + 1) (suc n)) defined in
    let later = lent_within bytes tags (place + 1) (suc n) same both.1 (omega arith) in
    omega (arith, later)

-- where they would not lie inside, there are none
pub lent_outside : {cells : Memory} (bytes : List ℕ) (tags : List Bool) (place count : ℕ)
    → Defines cells bytes tags place count
    → (place + count < place) ⊎ (length bytes < place + count) → [] ≡ bytes_at cells place count
lent_outside bytes tags place zero d outside = refl
lent_outside bytes tags place (suc n) d (inl before) = absurd (omega arith)
lent_outside bytes tags place (suc n) d (inr past) =
    let defined = defined_bytes bytes tags place (suc n) d in
    let inside = lent_within bytes tags place (suc n) d.same defined (omega arith) in
    absurd (omega arith)
