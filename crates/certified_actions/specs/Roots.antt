-- What the root may do in a module of pieces without PARs: it schedules, uses the words that code takes, and has its
-- links.
use Rattle.std.specs.Prelude.{◌≡◌, ℕ, ◌<◌, ◌≤◌, List, [], ◌++◌, get_or, Some}
use Rattle.module_format.specs.declared.limits.TheConstants.{MAX_DATA_WORDS}
use Rattle.module_format.specs.declared.rows.Direction.TheVariants.{In, Out}
use Rattle.occam_parser.specs.Lines.{Place}
use Rattle.scalar_ranges.specs.Entries.{Entry, meaning_in}
use Rattle.program_meaning.specs.Links.{message_length}
use Rattle.code_pieces.specs.LaidModule.{Arrangement, laid_module}
use Rattle.code_pieces.specs.Laying.{pars_of, words_taken}
use Rattle.code_pieces.specs.Pieces.{Piece}
use Rattle.line_pieces.specs.Actions.{carried, channel_home}
use Rattle.line_pieces.specs.Homes.{Link}
use Rattle.certified_lines.specs.Scopes.{Scene}
use Rattle.certified_lines.specs.StraightRules.{Setting}
use Rattle.certified_lines.specs.Telling.{AreAllowed}
use Rattle.certified_actions.specs.Declaring.{MayUse}
use Rattle.certified_actions.specs.Exchanging.{IsPort}
use Rattle.certified_actions.specs.Messages.{MaySchedule}

-- code is the root's, in a module of these pieces
pub record IsRoot (g : Setting) (ps : List Piece) (labels : ℕ) (links : List ℕ) (a : Arrangement) : Type 0 where
  pub alone : pars_of ps ≡ []
  pub contents : g.contents ≡ laid_module ps labels links a
  pub context : g.context ≡ 0
  pub depth : g.depth ≡ 0

-- The words below the workspace may be written.
abbrev pub RootsMaySchedule : Type 0
RootsMaySchedule = (g : Setting) (ps : List Piece) (labels : ℕ) (links : List ℕ) (a : Arrangement)
    → IsRoot g ps labels links a → MaySchedule g

-- So may those that code takes, if they are words of a frame.
abbrev pub RootsMayUseWords : Type 0
RootsMayUseWords = (g : Setting) (ps : List Piece) (labels : ℕ) (links : List ℕ) (a : Arrangement) (first end : ℕ)
    → IsRoot g ps labels links a → end ≤ words_taken ps → end ≤ MAX_DATA_WORDS → MayUse g first end

-- All parts of the scene's pieces are allowed, if these take no more words than the module's.
abbrev pub RootsAllowTheirPieces : Type 0
RootsAllowTheirPieces = (g : Scene) (ps : List Piece) (labels : ℕ) (links : List ℕ) (a : Arrangement)
    (before part rest : List Piece) → IsRoot g.setting ps labels links a → words_taken g.pieces ≤ words_taken ps
    → words_taken ps ≤ MAX_DATA_WORDS → g.pieces ≡ before ++ (part ++ rest) → AreAllowed g part

-- The first four links go out, and the others come in, if they have messages of the length that is wanted.
abbrev pub RootsSend : Type 0
RootsSend = (g : Scene) (ps : List Piece) (labels : ℕ) (links : List ℕ) (a : Arrangement) (es : List Entry)
    (channel : Place) (link : ℕ) → IsRoot g.setting ps labels links a → link < 4
    → channel_home g.homes es channel ≡ Some (Link link)
    → get_or links link 0 ≡ message_length (carried (meaning_in channel.name es))
    → IsPort g es Out channel (carried (meaning_in channel.name es))

-- the same of an input
abbrev pub RootsReceive : Type 0
RootsReceive = (g : Scene) (ps : List Piece) (labels : ℕ) (links : List ℕ) (a : Arrangement) (es : List Entry)
    (channel : Place) (link : ℕ) → IsRoot g.setting ps labels links a → 4 ≤ link → link < 8
    → channel_home g.homes es channel ≡ Some (Link link)
    → get_or links link 0 ≡ message_length (carried (meaning_in channel.name es))
    → IsPort g es In channel (carried (meaning_in channel.name es))
