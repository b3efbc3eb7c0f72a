-- The command that a line is. Assumes nothing: these are definitions.
use Rattle.std.specs.Prelude.{List, [], ℕ, ◌+◌, take, drop, codes, if◌then◌else◌, ◌==◌, Option, Some, None, Result, Ok, Err, ok_or, unwrap_or, bytes_eq, position}
use Rattle.console.specs.Number.{number_of}
use Rattle.serve.specs.declared.command.Command.{Command}
use Rattle.serve.specs.declared.command.Command.TheVariants.{Nothing, Load, Advance, Run, Look, Write, Model, Symbol, Shown, Clear, Quit}
use Rattle.serve.specs.declared.command.Mistake.{Mistake}
use Rattle.serve.specs.declared.command.Mistake.TheVariants.{LongLine, NotACommand, NoNumber}

-- ---- words

abbrev pub word_at : Option ℕ → List ℕ → List ℕ
word_at (Some k) s = take k s
word_at None s = s

-- what stands before the first space
abbrev pub word_of : List ℕ → List ℕ
word_of s = word_at (position (λ b. b == 32) s) s

abbrev pub rest_at : Option ℕ → List ℕ → Option (List ℕ)
rest_at (Some k) s = Some (drop (k + 1) s)
rest_at None s = None

-- what stands after it, if there is one
abbrev pub rest_of : List ℕ → Option (List ℕ)
rest_of s = rest_at (position (λ b. b == 32) s) s

-- ---- numbers

abbrev pub number_in : List ℕ → Result ℕ Mistake
number_in s = ok_or (number_of s) NoNumber

-- a command with a number
abbrev pub numbered : (ℕ → Command) → Result ℕ Mistake → Result Command Mistake
numbered f (Ok n) = Ok (f n)
numbered f (Err m) = Err m

-- 4,294,967,295 where none is written
abbrev pub room_in : Option (List ℕ) → Result ℕ Mistake
room_in None = Ok 4294967295
room_in (Some s) = number_in s

abbrev pub symbol_with : Result ℕ Mistake → Result ℕ Mistake → Result Command Mistake
symbol_with (Ok at) room = numbered (Symbol at) room
symbol_with (Err m) room = Err m

abbrev pub symbol_of : List ℕ → Result Command Mistake
symbol_of s = symbol_with (number_in (word_of s)) (room_in (rest_of s))

-- ---- commands

-- a command with a number, or two
abbrev pub with_numbers_of : List ℕ → List ℕ → Result Command Mistake
with_numbers_of word s =
    if bytes_eq word (codes "symbol") then symbol_of s else
    (if bytes_eq word (codes "load") then numbered Load (number_in s) else
    (if bytes_eq word (codes "run") then numbered Run (number_in s) else
    (if bytes_eq word (codes "write") then numbered Write (number_in s) else
    (if bytes_eq word (codes "model") then numbered Model (number_in s) else
    (if bytes_eq word (codes "shown") then numbered Shown (number_in s) else Err NotACommand)))))

abbrev pub longer_of : List ℕ → Result Command Mistake
longer_of s = with_numbers_of (word_of s) (unwrap_or (rest_of s) [])

abbrev pub command_of : List ℕ → Result Command Mistake
command_of s =
    if bytes_eq s [] then Ok Nothing else
    (if bytes_eq s (codes "advance") then Ok Advance else
    (if bytes_eq s (codes "look") then Ok Look else
    (if bytes_eq s (codes "clear") then Ok Clear else
    (if bytes_eq s (codes "quit") then Ok Quit else
    (if bytes_eq s (codes "write") then Ok (Write 4294967295) else
    (if bytes_eq s (codes "model") then Ok (Model 4294967295) else longer_of s))))))

-- ---- mistakes

abbrev pub mistake_text : Mistake → List ℕ
mistake_text LongLine = codes "the line is longer than 128 bytes"
mistake_text NotACommand = codes "not a command"
mistake_text NoNumber = codes "a number from 0 to 4294967295 is due"
