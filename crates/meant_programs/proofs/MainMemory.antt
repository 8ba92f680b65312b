-- The memory of a loaded module of pieces carries no names where a program begins.
use Rattle.std.proofs.Common.{ℕ, ◌*◌, ◌≤◌, List, [], ◌++◌, length, arith}
use Rattle.std.specs.Prelude.{replicate}
use Rattle.std.proofs.lemmas.List.{length-append, length-replicate}
use Rattle.machine_state.specs.Memory.{Memory}
use Rattle.machine_state.specs.World.{padding}
use Rattle.module_format.specs.Contents.{Contents}
use Rattle.plain_machine.proofs.PlainBytes.{length-defined}
use Rattle.agreement.specs.Loading.{loaded_bytes}
use Rattle.code_pieces.specs.Pieces.{Piece}
use Rattle.code_pieces.specs.Laying.{words_taken}
use Rattle.code_pieces.specs.LaidModule.{Says, laid_module}
use Rattle.code_generator.specs.Programs.{first_word}
use Rattle.placed_code.specs.Closing.{first_point}
use Rattle.placed_code.specs.LaidCode.{laid_code}
use Rattle.placed_code.proofs.TablesInMemory.{tables_are_loaded}
use Rattle.meant_lines.specs.Carrying.{Carries}
use Rattle.meant_programs.specs.Mains.{grounded}

-- what is behind the words of data
abbrev behind_data : Contents → List ℕ
behind_data m = m.code ++ replicate (padding (length m.code)) 0 ++ m.constants

-- the words of data lie in memory
data_long : (m : Contents) → 4 * m.data_words ≤ length (loaded_bytes m)
data_long m =
    let words = length-replicate {A = ℕ} (4 * m.data_words) 0 in
    let code = length-append (replicate (4 * m.data_words) 0) m.code in
    let pad = length-append (replicate (4 * m.data_words) 0 ++ m.code) (replicate (padding (length m.code)) 0) in
    let all = length-append (replicate (4 * m.data_words) 0 ++ m.code ++ replicate (padding (length m.code)) 0)
    m.constants in
    omega (arith, words, code, pad, all)

module _ (ps : List Piece) (labels : ℕ) (links bytes : List ℕ) (says : Says ps labels links bytes) where
  abbrev m : Contents
  m = laid_module ps labels links says.arrangement

  abbrev memory : Memory
  memory = (first_point m).held.memory

  -- memory carries no names, and has the tables of those that come
  pub memory_begins : Carries (grounded (laid_code ps labels says.arrangement.lengths 0).footing (words_taken ps) ps [])
      first_word [] [] memory
  memory_begins =
      let few = says.format.keeps.sizes.data_limit in
      let long = data_long m in
      let size = length-defined (loaded_bytes m) in
      record {
        frame = record {
          workspace = omega arith;
          few = omega (arith, few);
          inside = omega (arith, long, size);
        };
        kept = tt;
        rise = tt;
        room = tt;
        counted = omega arith;
        tables = λ values reads fit. tables_are_loaded ps labels links bytes says 0 values reads fit;
      }
