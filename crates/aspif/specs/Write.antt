-- Write-out. Document 01, "The calls": "Write-out gives line 1, the statements in the order read, without comments, and the `0` line, at the front of a
-- lent buffer, and answers their length." Assumes nothing: these are definitions.
use Rattle.std.specs.Prelude.{List, ◌++◌, ℕ, ltb, length, drop, Result, Ok, Err}
use Rattle.asp.specs.Sets.{pick}
use Rattle.aspif.specs.declared.write.Short.{Short}

-- what a write of `size` bytes answers for a buffer of `room` bytes: its length, or "8: lent bytes too short for write .. the needed length is returned"
abbrev pub written_of : ℕ → ℕ → Result ℕ Short
written_of size room = pick (ltb room size) (Err (record { needed = size })) (Ok size)

-- the buffer after it: the text at its front and the rest as before, or all as before
abbrev pub buffer_of : List ℕ → List ℕ → List ℕ
buffer_of t b = pick (ltb (length b) (length t)) b (t ++ drop (length t) b)
