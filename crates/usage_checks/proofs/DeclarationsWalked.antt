-- A declaration is gone over by its line and then by its names.
use Rattle.std.proofs.Common.{◌≡◌, ℕ, List, ◌⊎◌, refl, subst}
use Rattle.occam_parser.specs.Lines.{Declaration, Constants, Variables, Channels}
use Rattle.occam_parser.specs.Blocks.{declaration_line}
use Rattle.scalar_ranges.specs.Entries.{Meaning, Entry}
use Rattle.scalar_ranges.specs.Moves.{Known}
use Rattle.program_uses.specs.Declaring.{add_all, add_declaration}
use Rattle.usage_checks.specs.declared.telling.Findings.{Findings}
use Rattle.usage_checks.specs.DeclarationRules.{BreaksDeclaration}
use Rattle.usage_checks.specs.NameRules.{BreakNames, BreaksDeclared, names_in, declared_meaning, with_entries}
use Rattle.program_uses.specs.Telling.{At}
use Rattle.usage_checks.specs.Telling.{Walks}
use Rattle.usage_checks.proofs.FaultsInOrder.{walks_both}

abbrev pub WalksNames : ℕ → Meaning → (s t : Findings) → (before after : Known) → Declaration → Type 0
WalksNames first m s t before after d =
    Walks s t after (with_entries (add_all (names_in d) m) before)
    (BreakNames first (declaration_line d) m (names_in d) before.entries)

added_by_names : (d : Declaration) (es : List Entry) → add_all (names_in d) (declared_meaning es d) es
    ≡ add_declaration d es
added_by_names (Constants c) es = refl
added_by_names (Variables n) es = refl
added_by_names (Channels n) es = refl

pub walks_declared : {s t w : Findings} (k l : Known) (first line : ℕ) (d : Declaration) (m : Meaning)
    → line ≡ declaration_line d → m ≡ declared_meaning k.entries d
    → Walks s t k k (At line (BreaksDeclaration k.entries d)) → WalksNames first m t w k l d
    → Walks s w l (with_entries (add_declaration d) k) (BreaksDeclared first d k.entries)
walks_declared {s} {t} {w} k l first line d m lines means told named =
    let both = walks_both (with_entries (add_all (names_in d) m))
    (λ k. BreakNames first (declaration_line d) m (names_in d) k.entries) told named in
    let seen = subst (λ (x : Meaning × ℕ). Walks s w l (with_entries (add_all (names_in d) x.0) k)
    (λ f. At x.1 (BreaksDeclaration k.entries d) f
    ⊎ BreakNames first (declaration_line d) x.0 (names_in d) k.entries f)) (λ i. (means i, lines i)) both in
    subst (λ es. Walks s w l (record { entries = es; blocks = k.blocks }) (BreaksDeclared first d k.entries))
    (added_by_names d k.entries) seen
