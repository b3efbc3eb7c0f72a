-- How a program ends. Assumes nothing: this is a definition.
use Rattle.std.specs.Prelude.{◌≡◌, ◌≢◌, ℕ, IsOkAnd, Result, Ok, Err}
use Rattle.std.specs.IoError.{error_kind}
use Rattle.std.specs.Process.{exit_status}
use Rattle.std.specs.declared.io.Error.{Error}
use Rattle.std.specs.declared.io.ErrorKind.TheVariants.{BrokenPipe}
use Rattle.std.specs.declared.process.ExitCode.{ExitCode}

-- it ends with that status
abbrev pub EndsWith : ℕ → Result ExitCode Error → Type 0
EndsWith n r = IsOkAnd r (λ e. exit_status e ≡ n)

-- with 0; where nobody reads on, with 141; else with the error itself
abbrev pub EndsAs : Result (Unit {0}) Error → Result ExitCode Error → Type 0
EndsAs (Ok u) r = EndsWith 0 r
EndsAs (Err e) r = (error_kind e ≡ BrokenPipe → EndsWith 141 r) × (error_kind e ≢ BrokenPipe → r ≡ Err e)
