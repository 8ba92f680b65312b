-- What is known of open files, by what is known of the files themselves.
use Rattle.std.specs.Prelude.{ℕ, Bool, true, false, List, Option}
use Rattle.std.specs.Io.Buffered.{reader_remaining, writer_contents}
use Rattle.file_access.specs.declared.opened.FileReader.{FileReader}
use Rattle.file_access.specs.declared.opened.FileReader.TheVariants as readers
use Rattle.file_access.specs.declared.opened.FileWriter.{FileWriter}
use Rattle.file_access.specs.declared.opened.FileWriter.TheVariants as writers

-- whether what is read is a regular file
abbrev pub is_regular : {F I : Type 0} → FileReader F I → Bool
is_regular (readers.Regular file) = true
is_regular (readers.Other file) = false
is_regular (readers.Standard stream) = false

-- the bytes that are left to be read, where those of the file are known
abbrev pub reader_left : {F I : Type 0} → (F → Option (List ℕ)) → (I → Option (List ℕ)) → FileReader F I
    → Option (List ℕ)
reader_left remaining given (readers.Regular file) = reader_remaining remaining file
reader_left remaining given (readers.Other file) = remaining file
reader_left remaining given (readers.Standard stream) = given stream

-- the bytes that were written, where those in the file are known
abbrev pub writer_held : {F O : Type 0} → (F → Option (List ℕ)) → (O → Option (List ℕ)) → FileWriter F O
    → Option (List ℕ)
writer_held contents taken (writers.Regular file) = writer_contents contents file
writer_held contents taken (writers.Other file) = contents file
writer_held contents taken (writers.Standard stream) = taken stream
