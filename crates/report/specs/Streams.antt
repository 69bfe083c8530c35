-- The programs' streams: what is read of standard input, and what is said where it can't be read.
use Rattle.std.specs.Prelude.{ℕ, Bool, true, false, List, [], ◌∷◌, ◌++◌, codes, if◌then◌else◌, ◌==◌, Result, Ok, Err}
use Rattle.std.specs.List.{starts_with}
use Rattle.std.specs.IoError.{error_kind}
use Rattle.std.specs.declared.io.Error.{Error}
use Rattle.std.specs.declared.io.ErrorKind.{ErrorKind}
use Rattle.std.specs.declared.io.ErrorKind.TheVariants.{BrokenPipe}

-- 16,384 bytes are the most that a list may have; one more tells that it has more
abbrev pub most_read : ℕ
most_read = 16385

-- where the system's code begins, behind its words
abbrev pub code_begins : List ℕ
code_begins = codes " (os error "

-- the words before the first code, or all
unfoldable pub words_of : List ℕ → List ℕ
words_of [] = []
words_of (x ∷ xs) = if starts_with (λ a b. a == b) (x ∷ xs) code_begins then [] else x ∷ words_of xs

-- a program's name, the stream and the words
unfoldable pub unread_line : List ℕ → List ℕ → List ℕ
unread_line program reason = program ++ (codes ": standard input: " ++ (words_of reason ++ codes "\n"))

abbrev pub is_broken_pipe : ErrorKind → Bool
is_broken_pipe BrokenPipe = true
is_broken_pipe _ = false

-- a write that finds no reader is no fault
unfoldable pub forgiven : Result Unit Error → Result Unit Error
forgiven (Ok x) = Ok x
forgiven (Err error) = if is_broken_pipe (error_kind error) then Ok tt else Err error
