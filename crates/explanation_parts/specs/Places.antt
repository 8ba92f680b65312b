-- The offsets and the words of the frame that an instruction uses, and where workspaces are, in words.
use Rattle.std.specs.Prelude.{ℕ, ℤ, pos, ◌+ℤ◌, ◌*ℤ◌, [], ◌++◌, codes, Option, Some, None}
use Rattle.std.specs.Fmt.{signed_decimal}
use Rattle.module_format.specs.Contents.{Contents}
use Rattle.module_format.specs.declared.contexts.Context.{Context}
use Rattle.module_format.specs.Contexts.{context_at}
use Rattle.certificate.specs.Branches.{Forked}
use Rattle.machine_state.specs.declared.instruction.Instruction.{Instruction}
use Rattle.machine_state.specs.declared.instruction.Instruction.TheVariants.{LoadLocal, StoreLocal, AdjustWorkspace}
use Rattle.states.specs.State.{State}
use Rattle.fact_texts.specs.Texts.{Text}
use Rattle.fact_texts.specs.RowTexts.{context_text}

unfoldable pub offset_found : ℤ → ℤ → Text
offset_found depth e = codes "the offset is " ++ signed_decimal (pos 4 *ℤ (depth +ℤ e))

unfoldable pub signed_text : ℤ → Text
signed_text n = signed_decimal n

-- words and a number
unfoldable pub phrase : Text → ℤ → Text
phrase words n = words ++ signed_text n

unfoldable pub target_words : Text
target_words = codes "it leads to "

unfoldable pub target_found : ℕ → ℤ → Text
target_found next e = phrase target_words (pos next +ℤ e)

unfoldable pub word_words : Instruction → Text
word_words LoadLocal = codes "it is word "
word_words StoreLocal = codes "it is word "
word_words AdjustWorkspace = codes "it would be at word "
word_words i = codes "the workspace is at word "

unfoldable pub word_of : Instruction → ℤ → ℤ → ℤ
word_of LoadLocal depth e = depth +ℤ e
word_of StoreLocal depth e = depth +ℤ e
word_of AdjustWorkspace depth e = depth +ℤ e
word_of i depth e = depth

-- the word that is used, or where the workspace is or would be
unfoldable pub word_found : Instruction → ℤ → ℤ → Text
word_found i depth e = phrase (word_words i) (word_of i depth e)

unfoldable pub lo_words : Text
lo_words = codes "; frame from "

unfoldable pub hi_words : Text
hi_words = codes " up to "

-- the bounds of a frame
unfoldable pub bounds_text : ℤ → ℤ → Text
bounds_text lo hi = phrase lo_words lo ++ phrase hi_words hi

-- the frame of a context
unfoldable pub bounds_part : Option Context → Text
bounds_part None = []
bounds_part (Some c) = bounds_text c.lo c.hi

-- the word that is used, or where the workspace is or would be, and the frame
unfoldable pub place_found : Contents → Instruction → ℤ → State → Text
place_found m i e s = word_found i s.depth e ++ bounds_part (context_at m s.context)

unfoldable pub workspace_words : Text
workspace_words = codes "its workspace is at word "

unfoldable pub branch_started : Contents → ℕ → Text
branch_started m n = context_text m n ++ codes " is started; "

-- which branch is started, and where its workspace is
unfoldable pub workspace_text : Contents → ℕ → ℤ → Text
workspace_text m n word = branch_started m n ++ phrase workspace_words word

-- the same of the branch that begins at an offset
abbrev pub workspace_found : Contents → Option Forked → Text
workspace_found m None = codes "no branch begins there"
workspace_found m (Some f) = workspace_text m f.context f.branch.workspace
