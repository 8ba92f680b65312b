-- What is read of a file decides what is answered.
use Rattle.std.proofs.Common.{◌≡◌, ℕ, ◌+◌, ◌<◌, Bool, true, false, if◌then◌else◌, inl, inr, List, [], ◌∷◌}
use Rattle.std.proofs.Common.{length, take, Err, refl, sym, ap, ◌∙◌, subst, arith}
use Rattle.std.specs.Prelude.{nat_eq}
use Rattle.std.specs.List.{starts_with}
use Rattle.std.proofs.lemmas.Bool.{cases_lt, lt-ltb, or_parts}
use Rattle.std.proofs.lemmas.List.{take_all, length-take}
use Rattle.occam_layout.specs.declared.layout.TheConstants.{MAX_BYTES}
use Rattle.occam_layout.specs.Reading.{read, rows_at, lines_of}
use Rattle.module_format.specs.declared.tables.Version.{Version}
use Rattle.module_format.specs.declared.tables.Version.TheVariants as versions
use Rattle.module_format.specs.Contents.{Contents}
use Rattle.module_format.specs.Reading.{and_then}
use Rattle.module_format.specs.ReadingFile.{magic_at, header_at, read_file, read_contents}
use Rattle.module_format.specs.Spelling.{magic_one, magic_two, file_of}
use Rattle.file_access.specs.declared.extent.Extent.TheVariants.{Source, Module, Either}
use Rattle.file_access.specs.declared.extent.TheConstants.{MAGIC_BYTES}
use Rattle.tpm_actions.specs.Malformed.{IsMalformed}
use Rattle.file_access.specs.Extents.{begins_as_module, module_beginning, has_magic}
use Rattle.tpm_actions.specs.EnoughRead.{IsEnough, is_all, is_too_large}
use Rattle.tpm_actions.specs.EnoughRead.{has_no_magic, is_either_module, is_either_source}
use Rattle.tpm_actions.specs.EnoughRead.{BeginningsDecide, too_many_bytes, no_magic}

-- ---- a source

-- a source with more bytes than it may have is refused for that
too_large : (bytes : List ℕ) → MAX_BYTES < length bytes → read bytes ≡ Err too_many_bytes
unfolding read
too_large bytes more = ap (λ b. if b then Err too_many_bytes else rows_at 1 0 0 (lines_of bytes))
    (lt-ltb MAX_BYTES (length bytes) more)

-- a number of first bytes, of more
front_length : (n : ℕ) (bytes : List ℕ) → n < length bytes → n < length (take (n + 1) bytes)
front_length n bytes more = omega (arith, length-take (n + 1) bytes)

source_is_enough : (bytes : List ℕ) → IsEnough bytes Source
source_is_enough bytes = elim (cases_lt MAX_BYTES (length bytes)) [
  | inl more ↦ is_too_large (inr (too_large (take (MAX_BYTES + 1) bytes) (front_length MAX_BYTES bytes more)))
      (inr (too_large bytes more))
  | inr most ↦ is_all (take_all (MAX_BYTES + 1) bytes (omega arith))
]

-- ---- a module

-- the first bytes say whether there is a magic
first_tell : (bytes : List ℕ) → has_magic (take MAGIC_BYTES bytes) ≡ has_magic bytes
first_tell [] = refl
first_tell (a ∷ []) = refl
first_tell (a ∷ b ∷ []) = refl
first_tell (a ∷ b ∷ c ∷ []) = refl
first_tell (a ∷ b ∷ c ∷ d ∷ others) = refl

begins_otherwise : (bytes : List ℕ) → has_magic bytes ≡ false → magic_at bytes ≡ Err no_magic
unfolding magic_at
begins_otherwise bytes none =
    let parts = or_parts (starts_with nat_eq bytes magic_one) (starts_with nat_eq bytes magic_two) none in
    let one : starts_with nat_eq bytes magic_one ≡ false = parts.0 in
    let two : starts_with nat_eq bytes magic_two ≡ false = parts.1 in
    rw (one, two) refl

unread : (bytes : List ℕ) → has_magic bytes ≡ false → read_file bytes ≡ Err no_magic
unfolding read_file header_at and_then
unread bytes none = let e : magic_at bytes ≡ Err no_magic = begins_otherwise bytes none in rw e refl

file_has_magic : (version : Version) (c : Contents) → has_magic (file_of version c) ≡ true
unfolding file_of
file_has_magic versions.One c = refl
file_has_magic versions.Two c = refl

malformed : (bytes : List ℕ) → has_magic bytes ≡ false → IsMalformed bytes no_magic
unfolding read_contents and_then
malformed bytes none = record {
  first = inr (let e : read_file bytes ≡ Err no_magic = unread bytes none in rw e refl);
  none = λ differs m format.
      let e : true ≡ false =
      sym (file_has_magic format.version m) ∙ ap has_magic (sym format.file.spelled) ∙ none in cc;
}

module_is_enough : (bytes : List ℕ) → IsEnough bytes Module
module_is_enough bytes = on (has_magic bytes) refl
  where
    on : (b : Bool) → has_magic bytes ≡ b → IsEnough bytes Module
    on true has = is_all (ap (λ b. if b then bytes else take MAGIC_BYTES bytes) has)
    on false none = has_no_magic
        (subst (λ read. IsMalformed read no_magic)
        (sym (ap (λ b. if b then bytes else take MAGIC_BYTES bytes) none))
        (malformed (take MAGIC_BYTES bytes) (first_tell bytes ∙ none)))
        (malformed bytes none)

-- ---- a module or a source

either_is_enough : (bytes : List ℕ) → IsEnough bytes Either
either_is_enough bytes = on (begins_as_module bytes) refl
  where
    on : (b : Bool) → begins_as_module bytes ≡ b → IsEnough bytes Either
    on true begins = is_either_module begins
        (ap (λ b. if b then module_beginning bytes else take (MAX_BYTES + 1) bytes) begins) (module_is_enough bytes)
    on false begins = is_either_source begins
        (ap (λ b. if b then module_beginning bytes else take (MAX_BYTES + 1) bytes) begins) (source_is_enough bytes)

pub beginnings_decide : BeginningsDecide
beginnings_decide bytes Source = source_is_enough bytes
beginnings_decide bytes Module = module_is_enough bytes
beginnings_decide bytes Either = either_is_enough bytes
