-- What the rules of certificates leave of what is known where straight pieces are, wherever in the code they are and
-- however long, for whoever can pay. Straight pieces are instructions and the addresses of tables.
use Rattle.std.specs.Prelude.{◌≡◌, ℕ, ◌-◌, ◌≤◌, ℤ, pos, List, [], ◌∷◌, ◌++◌}
use Rattle.prefix_decoder.specs.declared.function.Fun.{Fun}
use Rattle.module_format.specs.Rows.{Fact}
use Rattle.module_format.specs.declared.stack.Stack.{Stack}
use Rattle.module_format.specs.Stack.{pushed}
use Rattle.module_format.specs.declared.fact.Fact.TheVariants.{Pointer}
use Rattle.module_format.specs.declared.fact.Region.TheVariants as regions
use Rattle.module_format.specs.declared.fact.Step.TheVariants.{Word}
use Rattle.module_format.specs.Contents.{Contents}
use Rattle.states.specs.declared.known.Known.{Known}
use Rattle.states.specs.declared.known.Mode.TheVariants.{Plain}
use Rattle.states.specs.State.{State, Facts, known}
use Rattle.rulings.specs.Rulings.{falls}
use Rattle.facts.specs.Rules.{rule}
use Rattle.code_pieces.specs.Pieces.{Piece, Direct, TableAddress}
use Rattle.code_pieces.specs.Laying.{operand_at}

-- ---- where code is

-- the module, the context, the workspace's word of the frame, and where each table is in the constants
pub record Setting : Type 0 where
  pub contents : Contents
  pub context : ℕ
  pub depth : ℕ
  pub tables : List ℤ → ℕ

-- ---- what is known there

-- what is known of registers and of words
pub record Told : Type 0 where
  pub stack : Stack Known
  pub frame : Facts

-- outside alternations and starts, with this number to pay from
abbrev pub state_of : Setting → Told → ℕ → State
state_of g t number = record {
  context = g.context;
  depth = pos g.depth;
  stack = t.stack;
  frame = t.frame;
  number = number;
  mode = Plain;
  guards = [];
}

-- this more is known, in A
abbrev pub with_pushed : Known → Told → Told
with_pushed v t = record t { stack = pushed v t.stack }

-- the address of a table is that of a word of the constants
abbrev pub table_fact : Setting → List ℤ → Fact
table_fact g values = Pointer regions.Constants (pos (g.tables values)) (pos (g.tables values)) Word

abbrev pub table_known : Setting → List ℤ → Known
table_known g values = known (table_fact g values)

-- ---- what pieces leave

-- Wherever the instruction is and however long, no rule is broken by what can pay, and this is known after it.
pub record Falls (g : Setting) (f : Fun) (e : ℤ) (before after : Told) : Type 0 where
  pub falls : (at size number : ℕ) → size ≤ number
      → rule (record { contents = g.contents; at = at; length = size }) f e (state_of g before number)
      ≡ falls (state_of g after (number - size))

-- So do straight pieces, one after the other. The address of a table is pushed.
pub data FallOn (g : Setting) : List Piece → Told → Told → Type 0 where
  done : {s : Told} → FallOn g [] s s
  next : {f : Fun} {e : ℤ} {ps : List Piece} {s t u : Told} → Falls g f (operand_at (pos g.depth) f e) s t
      → FallOn g ps t u → FallOn g (Direct f e ∷ ps) s u
  table : {values : List ℤ} {ps : List Piece} {s t : Told} → FallOn g ps (with_pushed (table_known g values) s) t
      → FallOn g (TableAddress values ∷ ps) s t

-- straight pieces after others
abbrev pub StraightRulesFollow : Type 0
StraightRulesFollow = (g : Setting) (ps qs : List Piece) (s t u : Told) → FallOn g ps s t → FallOn g qs t u
    → FallOn g (ps ++ qs) s u
