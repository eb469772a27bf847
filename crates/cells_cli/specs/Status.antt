-- The exit code of a status, and the words of the report's last line.
use Rattle.std.specs.Prelude.{ℕ, List, [], ◌∷◌, ◌++◌, codes}
use Rattle.std.specs.Fmt.{decimal}
use Rattle.cells_cli.specs.declared.status.Status.{Status}
use Rattle.cells_cli.specs.declared.status.Status.TheVariants.{End, Usage, ConfigRegistry, ConfigRules, ConfigLacks, ConfigLong, Script, ReadFault, WriteFault, Memory, DiskFault, NotAJournal, BadEntry, FileInUse, Unheard, EpochsSpent}

abbrev pub code_of : Status → ℕ
code_of End = 0
code_of Usage = 2
code_of (ConfigRegistry n) = 3
code_of (ConfigRules n) = 3
code_of (ConfigLacks cell) = 3
code_of ConfigLong = 3
code_of (Script line) = 4
code_of ReadFault = 5
code_of WriteFault = 6
code_of Memory = 7
code_of (DiskFault file) = 8
code_of (NotAJournal file at) = 9
code_of (BadEntry file index) = 9
code_of (FileInUse file size) = 10
code_of Unheard = 11
code_of (EpochsSpent cell) = 12

-- nothing more can be written after a fault of writing
abbrev pub last_words : Status → List ℕ
last_words End = codes "end"
last_words Usage = codes "usage"
last_words (ConfigRegistry n) = codes "config registry " ++ decimal n
last_words (ConfigRules n) = codes "config rules " ++ decimal n
last_words (ConfigLacks cell) = codes "config lacks " ++ decimal cell
last_words ConfigLong = codes "config long"
last_words (Script line) = codes "script " ++ decimal line
last_words ReadFault = codes "read fault"
last_words WriteFault = []
last_words Memory = codes "memory"
last_words (DiskFault file) = codes "disk fault " ++ decimal file
last_words (NotAJournal file at) = codes "not a journal " ++ decimal file ++ 32 ∷ decimal at
last_words (BadEntry file index) = codes "bad entry " ++ decimal file ++ 32 ∷ decimal index
last_words (FileInUse file size) = codes "file in use " ++ decimal file ++ 32 ∷ decimal size
last_words Unheard = codes "unheard"
last_words (EpochsSpent cell) = codes "epochs spent " ++ decimal cell

-- the last line, with its end
abbrev pub last_line : Status → List ℕ
last_line status = last_words status ++ 10 ∷ []
