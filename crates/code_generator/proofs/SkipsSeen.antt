-- What does nothing is seen as SKIP, and has no code.
use Rattle.std.proofs.Common.{◌≡◌, ℕ, zero, suc, ◌<◌, true, false, List, [], ◌∷◌, length, map, get_or, Option}
use Rattle.std.proofs.Common.{refl, sym, ap, ◌∙◌, arith, rules}
use Rattle.std.specs.Prelude.{fold}
use Rattle.std.proofs.lemmas.Bool.{and_parts, and_left, and_right, false≢true}
use Rattle.occam_layout.specs.declared.mark.Mark.TheVariants as mark
use Rattle.occam_parser.specs.declared.tree.Body.{the_lemmas}
use Rattle.occam_parser.specs.declared.tree.Declaration.{Declaration as CodeDeclaration}
use Rattle.occam_parser.specs.declared.tree.Process.{Process as CodeProcess}
use Rattle.occam_parser.specs.Terminals.{Terminal, Mark}
use Rattle.occam_parser.specs.BlockReading.{with_declarations}
use Rattle.occam_parser.specs.BlockViews.{process_of, construct_of, plain_component, all_processes}
use Rattle.occam_parser.specs.Blocks.{Process, Declared, Does, Construct, Act, Block, Replicated, Part, Processes, Components}
use Rattle.occam_parser.specs.Blocks.{NoComponent, Further, Component, Plain, Chosen, Guarded}
use Rattle.occam_parser.specs.LineViews.{declaration_of}
use Rattle.occam_parser.specs.Lines.{Skip, block_word}
use Rattle.program_uses.specs.Indices.{is_seq}
use Rattle.usage_checks.specs.AfterProcesses.{begun, ended, after_components}
use Rattle.code_pieces.specs.Pieces.{Code, no_code, before, then_code}
use Rattle.code_generator.specs.Processes.{Site, Surroundings, at_place, does_nothing, is_skip, all_do_nothing}
use Rattle.code_generator.specs.Processes.{component_is_skip, with_ending, with_opening, if_code, by_block}
use Rattle.code_generator.specs.Processes.{process_code, construct_code, components_code, component_code, placed_choices}

-- ---- a process

process_seen : (p : CodeProcess) → with_declarations (map declaration_of p.declarations.items)
    (Does p.line (construct_of p.construct.value)) ≡ process_of p
process_seen p = search (rules, the_lemmas)

none_first : (ds : List CodeDeclaration) (p : Process) → length ds ≡ 0
    → with_declarations (map declaration_of ds) p ≡ p
none_first [] p none = refl
none_first (d ∷ ds) p none = absurd (omega (arith, none))

-- with nothing declared, it is what its construct is
pub bare_seen : (p : CodeProcess) → length p.declarations.items ≡ 0
    → does_nothing (construct_of p.construct.value) ≡ is_skip (process_of p)
bare_seen p none =
    ap is_skip (sym (none_first p.declarations.items (Does p.line (construct_of p.construct.value)) none)
    ∙ process_seen p)

some_first : (ds : List CodeDeclaration) (p : Process) → 0 < length ds
    → false ≡ is_skip (with_declarations (map declaration_of ds) p)
some_first [] p some = absurd (omega (arith, some))
some_first (d ∷ ds) p some = refl

-- what is declared first is something
pub declaring_seen : (p : CodeProcess) → 0 < length p.declarations.items → false ≡ is_skip (process_of p)
declaring_seen p some =
    some_first p.declarations.items (Does p.line (construct_of p.construct.value)) some ∙ ap is_skip (process_seen p)

-- ---- some processes

-- one that does something is enough
some_before : (cs : Components Processes) (ps : List CodeProcess) → all_do_nothing cs ≡ false
    → all_do_nothing (fold Further cs (map plain_component ps)) ≡ false
some_before cs [] h = h
some_before cs (p ∷ ps) h =
    some_before (Further cs (plain_component p)) ps (and_left (all_do_nothing cs) (is_skip (process_of p)) h)

some_among : (cs : Components Processes) (ps : List CodeProcess) (i : ℕ) (d : CodeProcess) → i < length ps
    → is_skip (process_of (get_or ps i d)) ≡ false → all_do_nothing (fold Further cs (map plain_component ps)) ≡ false
some_among cs [] i d h does = absurd (omega (arith, h))
some_among cs (p ∷ ps) zero d h does =
    some_before (Further cs (plain_component p)) ps (and_right (all_do_nothing cs) (is_skip (process_of p)) does)
some_among cs (p ∷ ps) (suc i) d h does = some_among (Further cs (plain_component p)) ps i d (omega (arith, h)) does

pub some_does : (ps : List CodeProcess) (i : ℕ) (d : CodeProcess) → i < length ps
    → is_skip (process_of (get_or ps i d)) ≡ false → false ≡ all_do_nothing (all_processes ps)
some_does ps i d h does = sym (some_among NoComponent ps i d h does)

-- ---- their code

-- a SEQ is all its components
as_seq : (word : Terminal) (all choices : Option Code) → is_seq word ≡ true → by_block word all choices ≡ all
as_seq (Mark mark.Seq) all choices h = refl
as_seq word all choices h = absurd (false≢true h)

-- what does nothing has no code
mutual
  pub skip_code : (w : Surroundings) (p : Process) (s : Site) → is_skip p ≡ true → process_code w p s ≡ no_code s.label
  skip_code w (Declared d p) s h = absurd (false≢true h)
  skip_code w (Does line c) s h = nothing_code w line c s h

  nothing_code : (w : Surroundings) (line : ℕ) (c : Construct) (s : Site) → does_nothing c ≡ true
      → construct_code w line c s ≡ no_code s.label
  nothing_code w line (Act Skip) s h = refl
  nothing_code w line (Block kind cs) s h =
      let word = block_word kind in
      let start = begun word s.known in
      as_seq word (components_code w cs s)
      (if_code s s.frame (ended word (after_components w.around word cs start))
      (with_opening (with_ending (placed_choices w cs start))))
      (and_parts (is_seq word) (all_do_nothing cs) h).0
      ∙ nothing_together w cs s (and_parts (is_seq word) (all_do_nothing cs) h).1
  nothing_code w line (Act action) s h = absurd (false≢true h)
  nothing_code w line (Replicated r b) s h = absurd (false≢true h)

  nothing_together : {part : Part} (w : Surroundings) (cs : Components part) (s : Site) → all_do_nothing cs ≡ true
      → components_code w cs s ≡ no_code s.label
  nothing_together w NoComponent s h = refl
  nothing_together w (Further cs c) s h =
      let next : ℕ → Option Code =
      λ label. component_code w c (at_place (after_components w.around (Mark mark.Seq) cs s.known) label s) in
      ap (λ x. then_code x next) (nothing_together w cs s (and_parts (all_do_nothing cs) (component_is_skip c) h).0)
      ∙ ap (before []) (component_nothing w c (at_place (after_components w.around (Mark mark.Seq) cs s.known) s.label s)
      (and_parts (all_do_nothing cs) (component_is_skip c) h).1)

  component_nothing : {part : Part} (w : Surroundings) (c : Component part) (s : Site) → component_is_skip c ≡ true
      → component_code w c s ≡ no_code s.label
  component_nothing w (Plain p) s h = skip_code w p s h
  component_nothing w (Chosen line e p) s h = absurd (false≢true h)
  component_nothing w (Guarded line g p) s h = absurd (false≢true h)
