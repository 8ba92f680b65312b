-- What the root may do in a module of pieces without PARs.
use Rattle.std.proofs.Common.{◌≡◌, ℕ, ◌≤◌, ℤ, pos, negsuc, ◌+ℤ◌, ◌≤ℤ◌, ◌<ℤ◌, ◌<◌, true, List, Some, refl, sym, ap}
use Rattle.std.proofs.Common.{subst, ◌∙◌, arith}
use Rattle.std.specs.Prelude.{get_or, neg_ℤ}
use Rattle.std.proofs.lemmas.Int.{ints}
use Rattle.std.specs.List.{AllByRecursion}
use Rattle.std.proofs.Common.{[], ◌∷◌}
use Rattle.prefix_decoder.specs.declared.function.Fun.TheVariants as fun
use Rattle.module_format.specs.declared.rows.Direction.{Direction}
use Rattle.module_format.specs.declared.rows.Direction.TheVariants.{In, Out}
use Rattle.module_format.specs.declared.rows.EndKind.TheVariants as ends
use Rattle.module_format.specs.Contents.{Contents, link_length}
use Rattle.certificate.specs.Rights.{has_end, may_read_word, may_write_word}
use Rattle.occam_parser.specs.declared.tree.ValueType.{ValueType}
use Rattle.occam_parser.specs.declared.tree.ValueType.TheVariants as value_type
use Rattle.occam_parser.specs.Lines.{Place}
use Rattle.scalar_ranges.specs.Entries.{Entry, meaning_in}
use Rattle.program_meaning.specs.Links.{message_length}
use Rattle.code_pieces.specs.declared.modules.TheConstants.{BASE}
use Rattle.code_pieces.specs.LaidModule.{Arrangement, laid_module}
use Rattle.code_pieces.specs.Laying.{words_taken}
use Rattle.code_pieces.specs.Pieces.{Direct, Piece, TableAddress}
use Rattle.line_pieces.specs.Actions.{carried, channel_home}
use Rattle.line_pieces.specs.Homes.{Link}
use Rattle.placed_code.proofs.OneProcess.{root_has_its_links, root_has_its_words}
use Rattle.meant_lines.specs.Carrying.{Ground}
use Rattle.meant_lines.specs.Pushing.{StandsOn}
use Rattle.meant_lines.proofs.PartsStand.{code_stores_within, parts_stand}
use Rattle.certified_lines.specs.Scopes.{Scene}
use Rattle.certified_lines.specs.StraightRules.{Setting}
use Rattle.certified_lines.specs.Telling.{AreAllowed, IsAllowed}
use Rattle.certified_actions.specs.Declaring.{MayUse}
use Rattle.certified_actions.specs.Exchanging.{IsPort}
use Rattle.certified_actions.specs.Roots.{RootsAllowTheirPieces, IsRoot, RootsMaySchedule, RootsMayUseWords}
use Rattle.certified_actions.specs.Roots.{RootsReceive, RootsSend}

-- ---- words

word_used : (g : Setting) (ps : List Piece) (labels : ℕ) (links : List ℕ) (a : Arrangement) → IsRoot g ps labels links a
    → (k : ℤ) → neg_ℤ (pos BASE) ≤ℤ k → k <ℤ pos (words_taken ps)
    → (may_write_word g.contents g.context k ≡ true) × (may_read_word g.contents g.context k ≡ true)
word_used g ps labels links a root k low high =
    let both = root_has_its_words ps labels links a root.alone k low high in (
      (λ i. may_write_word (root.contents i) (root.context i) k) ∙ both.0,
      (λ i. may_read_word (root.contents i) (root.context i) k) ∙ both.1,
    )

pub roots_may_schedule : RootsMaySchedule
roots_may_schedule g ps labels links a root n less =
    let none : pos 0 +ℤ negsuc n ≡ negsuc n = omega (arith, ints) in
    let at : pos g.depth +ℤ negsuc n ≡ negsuc n = ap (λ (d : ℕ). pos d +ℤ negsuc n) root.depth ∙ none in
    ap (λ (k : ℤ). may_write_word g.contents g.context k) at
    ∙ (word_used g ps labels links a root (negsuc n) (omega (arith, ints, less)) (omega (arith, ints))).0

pub roots_may_use_words : RootsMayUseWords
roots_may_use_words g ps labels links a first end root taken few = record {
  few = few;
  reads = λ k low high.
      (word_used g ps labels links a root (pos k) (omega (arith, ints)) (omega (arith, ints, high, taken))).1;
  writes = λ k low high.
      (word_used g ps labels links a root (pos k) (omega (arith, ints)) (omega (arith, ints, high, taken))).0;
}

-- ---- pieces

-- a piece that stores in the frame is allowed where its words may be used
piece_allowed : (g : Scene) (words : ℕ) → MayUse g.setting 0 words → (p : Piece) → StandsOn words g.pieces p
    → IsAllowed g p
piece_allowed g words may (Direct fun.StoreLocal (pos word)) less =
    let few = may.few in
    (omega (arith, less, few), may.writes word (omega arith) less, may.reads word (omega arith) less)
piece_allowed g words may (Direct f e) is = tt
piece_allowed g words may (TableAddress values) is = is
piece_allowed g words may p is = tt

all_allowed : (g : Scene) (words : ℕ) → MayUse g.setting 0 words → (ps : List Piece)
    → AllByRecursion (StandsOn words g.pieces) ps → AreAllowed g ps
all_allowed g words may [] all = tt
all_allowed g words may (p ∷ ps) all = (piece_allowed g words may p all.0, all_allowed g words may ps all.1)

-- the pieces of a scene as those of a ground, of which only words and pieces matter
abbrev ground_of : Scene → ℕ → Ground
ground_of g words = record {
  footing = record { depth = g.setting.depth; tables = λ values. 0 };
  words = words;
  pieces = g.pieces;
  homes = g.homes;
  turns = λ word. pos 0;
}

pub roots_allow_their_pieces : RootsAllowTheirPieces
roots_allow_their_pieces g ps labels links a before part rest root taken few is =
    let words = words_taken g.pieces in
    all_allowed g words
    (roots_may_use_words g.setting ps labels links a 0 words root taken (omega (arith, taken, few))) part
    (parts_stand (ground_of g words) before part rest (code_stores_within g.pieces) is)

-- ---- links

some_bytes : (type : ValueType) → 1 ≤ message_length type
some_bytes value_type.Int = omega arith
some_bytes value_type.Byte = omega arith

end_there : (g : Setting) (ps : List Piece) (labels : ℕ) (links : List ℕ) (a : Arrangement) (link : ℕ) (way : Direction)
    → IsRoot g ps labels links a
    → has_end (laid_module ps labels links a) 0 (record { kind = ends.Link link; direction = way }) ≡ true
    → has_end g.contents g.context (record { kind = ends.Link link; direction = way }) ≡ true
end_there g ps labels links a link way root is =
    (λ i. has_end (root.contents i) (root.context i) (record { kind = ends.Link link; direction = way })) ∙ is

-- a link is a port, if the root has its end where it has messages
port_there : (g : Scene) (ps : List Piece) (labels : ℕ) (links : List ℕ) (a : Arrangement) (es : List Entry)
    (channel : Place) (link : ℕ) (way : Direction) → IsRoot g.setting ps labels links a → link < 8
    → channel_home g.homes es channel ≡ Some (Link link)
    → get_or links link 0 ≡ message_length (carried (meaning_in channel.name es))
    → (1 ≤ get_or links link 0
    → has_end (laid_module ps labels links a) 0 (record { kind = ends.Link link; direction = way }) ≡ true)
    → IsPort g es way channel (carried (meaning_in channel.name es))
port_there g ps labels links a es channel link way root few at long end = record {
  link = link;
  inside = few;
  at = at;
  carries = refl;
  length = ap (λ (m : Contents). link_length m link) root.contents ∙ long;
  end = end_there g.setting ps labels links a link way root
      (end (subst (λ (n : ℕ). 1 ≤ n) (sym long) (some_bytes _)));
}

pub roots_send : RootsSend
roots_send g ps labels links a es channel link root out at long =
    port_there g ps labels links a es channel link Out root (omega (arith, out)) at long
    (root_has_its_links.out ps labels links a root.alone link out)

pub roots_receive : RootsReceive
roots_receive g ps labels links a es channel link root low few at long =
    port_there g ps labels links a es channel link In root few at long
    (root_has_its_links.into ps labels links a root.alone link low)
