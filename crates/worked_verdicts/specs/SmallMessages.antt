-- The verdicts on a small module that takes a byte from a link and sends it back, and on its variations.
use Rattle.std.specs.Prelude.{◌≡◌, ℕ, [], ◌∷◌, Ok}
use Rattle.module_format.specs.Contents.{Contents}
use Rattle.machine_state.specs.SmallModules as small
use Rattle.states.specs.declared.rule.Rule.TheVariants as rules
use Rattle.verifier.specs.Judge.{verdict, refused}

-- of this budget
abbrev pub echo : ℕ → Contents
echo budget = record small.echo { budget = budget }

-- It is accepted. It is refused if the budget does not cover it, if messages of the input have four bytes, if there is
-- no output, and if the word that it sends was no number before.
pub record EchoIsJudged : Type 0 where
  pub accepted : verdict (echo 15) ≡ Ok tt
  pub unpaid : verdict (echo 14) ≡ refused rules.Budget 13
  pub long_messages :
      verdict (record (echo 15) { lengths = 1 ∷ 0 ∷ 0 ∷ 0 ∷ 4 ∷ 0 ∷ 0 ∷ 0 ∷ [] }) ≡ refused rules.MessageLength 7
  pub no_output : verdict (record (echo 15) { lengths = 0 ∷ 0 ∷ 0 ∷ 0 ∷ 1 ∷ 0 ∷ 0 ∷ 0 ∷ [] }) ≡ refused rules.Channel 12
  pub no_number :
      verdict
      (record (small.of_code
      (0x11 ∷ 0x24 ∷ 0xf2 ∷ 0x54 ∷ 0x41 ∷ 0xf7 ∷ 0x11 ∷ 0x24 ∷ 0xf2 ∷ 0x41 ∷ 0xfb ∷ 0x21 ∷ 0xf5 ∷ [])
      13) {
        lengths = 1 ∷ 0 ∷ 0 ∷ 0 ∷ 1 ∷ 0 ∷ 0 ∷ 0 ∷ [];
      })
      ≡ refused rules.UnknownRegister 10
