-- The names of the links, and the paths of the files on them: our own choice.
use Rattle.std.specs.Prelude.{Option, codes, option_map}
use Rattle.std.specs.Borrow.{Bor}
use Rattle.command_line.specs.Words.{Text}
use Rattle.command_line.specs.declared.links.OnLinks.{OnLinks}

abbrev pub on_each : {A B : Type 0} → (A → B) → OnLinks A → OnLinks B
on_each f all = record { first = f all.first; second = f all.second; third = f all.third; fourth = f all.fourth }

abbrev pub input_names : OnLinks Text
input_names = record { first = codes "in0"; second = codes "in1"; third = codes "in2"; fourth = codes "in3" }

abbrev pub output_names : OnLinks Text
output_names = record { first = codes "out0"; second = codes "out1"; third = codes "out2"; fourth = codes "out3" }

-- the names, as texts
abbrev pub names_of : OnLinks (Bor Text) → OnLinks Text
names_of = on_each (λ name. name.now)

-- the paths, as texts
abbrev pub paths_of : OnLinks (Option (Bor Text)) → OnLinks (Option Text)
paths_of = on_each (option_map (λ path. path.now))
