-- Texts of document 01 and orders 1 and 2 with the answers that they give, each by computation. Written by tests/aspif_samples.py. Assumes nothing.
use mathlib.Core.Path.{◌≡◌, refl}
use mathlib.Core.List.{List, [], ◌∷◌, map}
use Prim.Native.Nat.{ℕ}
use lib.IntN.{pos, negsuc}
use Rattle.asp.specs.Program.{normal, weighted, constraint, plain, choice, Program}
use Rattle.aspif_fields.specs.Fields.{token, number, digits, decimal, natural, signed_token, signed, atom, literal, opening, weighed_field, pair}
use Rattle.aspif_lines.specs.Text.{text_of, pieces, same_bytes, lines, stepped_line, statement, more, normal_body, weighted_body, body_field, rule_line, minimise_line, symbol_line, of_kind, fits, sum, insert, accepted, refused}

-- ---- `plan.aspif`

abbrev pub plan : List ℕ
plan = 97 ∷ 115 ∷ 112 ∷ 32 ∷ 49 ∷ 32 ∷ 48 ∷ 32 ∷ 48 ∷ 10 ∷ 49 ∷ 32 ∷ 49 ∷ 32 ∷ 50 ∷ 32 ∷ 49 ∷ 32 ∷ 50 ∷ 32 ∷ 48 ∷ 32 ∷ 48 ∷ 10 ∷ 49 ∷ 32 ∷ 48 ∷ 32 ∷ 49 ∷ 32 ∷ 51 ∷ 32 ∷ 48 ∷ 32 ∷ 50 ∷ 32 ∷ 49 ∷ 32 ∷ 50 ∷ 10 ∷ 49 ∷ 32 ∷ 48 ∷ 32 ∷ 48 ∷ 32 ∷ 48 ∷ 32 ∷ 50 ∷ 32 ∷ 45 ∷ 49 ∷ 32 ∷ 45 ∷ 50 ∷ 10 ∷ 50 ∷ 32 ∷ 49 ∷ 32 ∷ 50 ∷ 32 ∷ 49 ∷ 32 ∷ 50 ∷ 32 ∷ 50 ∷ 32 ∷ 51 ∷ 10 ∷ 52 ∷ 32 ∷ 49 ∷ 32 ∷ 97 ∷ 32 ∷ 49 ∷ 32 ∷ 49 ∷ 10 ∷ 52 ∷ 32 ∷ 49 ∷ 32 ∷ 98 ∷ 32 ∷ 49 ∷ 32 ∷ 50 ∷ 10 ∷ 48 ∷ 10 ∷ []

abbrev pub plan_program : Program
plan_program =
    record {
      rules =
          record { head = choice (1 ∷ 2 ∷ []); body = normal [] }
          ∷ record { head = plain 3; body = normal (pos 1 ∷ pos 2 ∷ []) }
          ∷ record { head = constraint; body = normal (negsuc 0 ∷ negsuc 1 ∷ []) }
          ∷ [];
      priorities = pos 1 ∷ [];
      entries = record { priority = pos 1; literal = pos 1; weight = pos 2 } ∷ record { priority = pos 1; literal = pos 2; weight = pos 3 } ∷ [];
      symbols = record { name = 97 ∷ []; condition = pos 1 ∷ [] } ∷ record { name = 98 ∷ []; condition = pos 2 ∷ [] } ∷ [];
    }

pub plan_reads : text_of plan ≡ accepted plan_program plan
unfolding text_of pieces same_bytes lines stepped_line statement token number digits decimal natural signed_token signed atom literal more opening normal_body weighed_field weighted_body body_field rule_line pair minimise_line symbol_line of_kind fits sum insert
plan_reads = refl

-- with a comment before its first statement it is stored without it

pub plan_remarked : text_of (97 ∷ 115 ∷ 112 ∷ 32 ∷ 49 ∷ 32 ∷ 48 ∷ 32 ∷ 48 ∷ 10 ∷ 49 ∷ 48 ∷ 32 ∷ 120 ∷ 10 ∷ 49 ∷ 32 ∷ 49 ∷ 32 ∷ 50 ∷ 32 ∷ 49 ∷ 32 ∷ 50 ∷ 32 ∷ 48 ∷ 32 ∷ 48 ∷ 10 ∷ 49 ∷ 32 ∷ 48 ∷ 32 ∷ 49 ∷ 32 ∷ 51 ∷ 32 ∷ 48 ∷ 32 ∷ 50 ∷ 32 ∷ 49 ∷ 32 ∷ 50 ∷ 10 ∷ 49 ∷ 32 ∷ 48 ∷ 32 ∷ 48 ∷ 32 ∷ 48 ∷ 32 ∷ 50 ∷ 32 ∷ 45 ∷ 49 ∷ 32 ∷ 45 ∷ 50 ∷ 10 ∷ 50 ∷ 32 ∷ 49 ∷ 32 ∷ 50 ∷ 32 ∷ 49 ∷ 32 ∷ 50 ∷ 32 ∷ 50 ∷ 32 ∷ 51 ∷ 10 ∷ 52 ∷ 32 ∷ 49 ∷ 32 ∷ 97 ∷ 32 ∷ 49 ∷ 32 ∷ 49 ∷ 10 ∷ 52 ∷ 32 ∷ 49 ∷ 32 ∷ 98 ∷ 32 ∷ 49 ∷ 32 ∷ 50 ∷ 10 ∷ 48 ∷ 10 ∷ []) ≡ accepted plan_program plan
unfolding text_of pieces same_bytes lines stepped_line statement token number digits decimal natural signed_token signed atom literal more opening normal_body weighed_field weighted_body body_field rule_line pair minimise_line symbol_line of_kind fits sum insert
plan_remarked = refl

-- ---- priorities, highest first, each once

pub levels_sorted : text_of (97 ∷ 115 ∷ 112 ∷ 32 ∷ 49 ∷ 32 ∷ 48 ∷ 32 ∷ 48 ∷ 10 ∷ 50 ∷ 32 ∷ 45 ∷ 51 ∷ 32 ∷ 48 ∷ 10 ∷ 50 ∷ 32 ∷ 55 ∷ 32 ∷ 48 ∷ 10 ∷ 50 ∷ 32 ∷ 48 ∷ 32 ∷ 48 ∷ 10 ∷ 50 ∷ 32 ∷ 55 ∷ 32 ∷ 48 ∷ 10 ∷ 48 ∷ 10 ∷ []) ≡ accepted (record { rules = []; priorities = pos 7 ∷ pos 0 ∷ negsuc 2 ∷ []; entries = []; symbols = [] }) (97 ∷ 115 ∷ 112 ∷ 32 ∷ 49 ∷ 32 ∷ 48 ∷ 32 ∷ 48 ∷ 10 ∷ 50 ∷ 32 ∷ 45 ∷ 51 ∷ 32 ∷ 48 ∷ 10 ∷ 50 ∷ 32 ∷ 55 ∷ 32 ∷ 48 ∷ 10 ∷ 50 ∷ 32 ∷ 48 ∷ 32 ∷ 48 ∷ 10 ∷ 50 ∷ 32 ∷ 55 ∷ 32 ∷ 48 ∷ 10 ∷ 48 ∷ 10 ∷ [])
unfolding text_of pieces same_bytes lines stepped_line statement token number digits decimal natural signed_token signed atom literal more opening normal_body weighed_field weighted_body body_field rule_line pair minimise_line symbol_line of_kind fits sum insert
levels_sorted = refl

-- ---- order 1: weights below zero, which write-out gives back

pub rewards_read : text_of (97 ∷ 115 ∷ 112 ∷ 32 ∷ 49 ∷ 32 ∷ 48 ∷ 32 ∷ 48 ∷ 10 ∷ 50 ∷ 32 ∷ 48 ∷ 32 ∷ 53 ∷ 32 ∷ 49 ∷ 32 ∷ 45 ∷ 49 ∷ 48 ∷ 48 ∷ 48 ∷ 48 ∷ 48 ∷ 48 ∷ 32 ∷ 45 ∷ 50 ∷ 32 ∷ 49 ∷ 48 ∷ 48 ∷ 48 ∷ 48 ∷ 48 ∷ 48 ∷ 32 ∷ 49 ∷ 32 ∷ 45 ∷ 49 ∷ 32 ∷ 49 ∷ 32 ∷ 49 ∷ 32 ∷ 51 ∷ 32 ∷ 48 ∷ 10 ∷ 48 ∷ 10 ∷ []) ≡ accepted (record { rules = []; priorities = pos 0 ∷ []; entries = record { priority = pos 0; literal = pos 1; weight = negsuc 999999 } ∷ record { priority = pos 0; literal = negsuc 1; weight = pos 1000000 } ∷ record { priority = pos 0; literal = pos 1; weight = negsuc 0 } ∷ record { priority = pos 0; literal = pos 1; weight = pos 1 } ∷ record { priority = pos 0; literal = pos 3; weight = pos 0 } ∷ []; symbols = [] }) (97 ∷ 115 ∷ 112 ∷ 32 ∷ 49 ∷ 32 ∷ 48 ∷ 32 ∷ 48 ∷ 10 ∷ 50 ∷ 32 ∷ 48 ∷ 32 ∷ 53 ∷ 32 ∷ 49 ∷ 32 ∷ 45 ∷ 49 ∷ 48 ∷ 48 ∷ 48 ∷ 48 ∷ 48 ∷ 48 ∷ 32 ∷ 45 ∷ 50 ∷ 32 ∷ 49 ∷ 48 ∷ 48 ∷ 48 ∷ 48 ∷ 48 ∷ 48 ∷ 32 ∷ 49 ∷ 32 ∷ 45 ∷ 49 ∷ 32 ∷ 49 ∷ 32 ∷ 49 ∷ 32 ∷ 51 ∷ 32 ∷ 48 ∷ 10 ∷ 48 ∷ 10 ∷ [])
unfolding text_of pieces same_bytes lines stepped_line statement token number digits decimal natural signed_token signed atom literal more opening normal_body weighed_field weighted_body body_field rule_line pair minimise_line symbol_line of_kind fits sum insert
rewards_read = refl

-- ---- order 2: weighted bodies, which write-out gives back

pub weighted_reads : text_of (97 ∷ 115 ∷ 112 ∷ 32 ∷ 49 ∷ 32 ∷ 48 ∷ 32 ∷ 48 ∷ 10 ∷ 49 ∷ 32 ∷ 49 ∷ 32 ∷ 51 ∷ 32 ∷ 49 ∷ 32 ∷ 50 ∷ 32 ∷ 51 ∷ 32 ∷ 48 ∷ 32 ∷ 48 ∷ 10 ∷ 49 ∷ 32 ∷ 48 ∷ 32 ∷ 48 ∷ 32 ∷ 49 ∷ 32 ∷ 53 ∷ 32 ∷ 51 ∷ 32 ∷ 49 ∷ 32 ∷ 50 ∷ 32 ∷ 50 ∷ 32 ∷ 51 ∷ 32 ∷ 51 ∷ 32 ∷ 52 ∷ 10 ∷ 50 ∷ 32 ∷ 48 ∷ 32 ∷ 51 ∷ 32 ∷ 45 ∷ 49 ∷ 32 ∷ 50 ∷ 32 ∷ 45 ∷ 50 ∷ 32 ∷ 51 ∷ 32 ∷ 45 ∷ 51 ∷ 32 ∷ 52 ∷ 10 ∷ 48 ∷ 10 ∷ []) ≡ accepted (record { rules = record { head = choice (1 ∷ 2 ∷ 3 ∷ []); body = normal [] } ∷ record { head = constraint; body = weighted 5 (record { literal = pos 1; weight = 2 } ∷ record { literal = pos 2; weight = 3 } ∷ record { literal = pos 3; weight = 4 } ∷ []) } ∷ []; priorities = pos 0 ∷ []; entries = record { priority = pos 0; literal = negsuc 0; weight = pos 2 } ∷ record { priority = pos 0; literal = negsuc 1; weight = pos 3 } ∷ record { priority = pos 0; literal = negsuc 2; weight = pos 4 } ∷ []; symbols = [] }) (97 ∷ 115 ∷ 112 ∷ 32 ∷ 49 ∷ 32 ∷ 48 ∷ 32 ∷ 48 ∷ 10 ∷ 49 ∷ 32 ∷ 49 ∷ 32 ∷ 51 ∷ 32 ∷ 49 ∷ 32 ∷ 50 ∷ 32 ∷ 51 ∷ 32 ∷ 48 ∷ 32 ∷ 48 ∷ 10 ∷ 49 ∷ 32 ∷ 48 ∷ 32 ∷ 48 ∷ 32 ∷ 49 ∷ 32 ∷ 53 ∷ 32 ∷ 51 ∷ 32 ∷ 49 ∷ 32 ∷ 50 ∷ 32 ∷ 50 ∷ 32 ∷ 51 ∷ 32 ∷ 51 ∷ 32 ∷ 52 ∷ 10 ∷ 50 ∷ 32 ∷ 48 ∷ 32 ∷ 51 ∷ 32 ∷ 45 ∷ 49 ∷ 32 ∷ 50 ∷ 32 ∷ 45 ∷ 50 ∷ 32 ∷ 51 ∷ 32 ∷ 45 ∷ 51 ∷ 32 ∷ 52 ∷ 10 ∷ 48 ∷ 10 ∷ [])
unfolding text_of pieces same_bytes lines stepped_line statement token number digits decimal natural signed_token signed atom literal more opening normal_body weighed_field weighted_body body_field rule_line pair minimise_line symbol_line of_kind fits sum insert
weighted_reads = refl

pub edges_read : text_of (97 ∷ 115 ∷ 112 ∷ 32 ∷ 49 ∷ 32 ∷ 48 ∷ 32 ∷ 48 ∷ 10 ∷ 49 ∷ 32 ∷ 48 ∷ 32 ∷ 49 ∷ 32 ∷ 49 ∷ 32 ∷ 49 ∷ 32 ∷ 49 ∷ 48 ∷ 48 ∷ 48 ∷ 48 ∷ 48 ∷ 48 ∷ 48 ∷ 48 ∷ 48 ∷ 32 ∷ 51 ∷ 32 ∷ 50 ∷ 32 ∷ 49 ∷ 48 ∷ 48 ∷ 48 ∷ 48 ∷ 48 ∷ 48 ∷ 32 ∷ 45 ∷ 50 ∷ 32 ∷ 48 ∷ 32 ∷ 50 ∷ 32 ∷ 49 ∷ 10 ∷ 49 ∷ 32 ∷ 49 ∷ 32 ∷ 48 ∷ 32 ∷ 49 ∷ 32 ∷ 48 ∷ 32 ∷ 48 ∷ 10 ∷ 48 ∷ 10 ∷ []) ≡ accepted (record { rules = record { head = plain 1; body = weighted 1000000000 (record { literal = pos 2; weight = 1000000 } ∷ record { literal = negsuc 1; weight = 0 } ∷ record { literal = pos 2; weight = 1 } ∷ []) } ∷ record { head = choice []; body = weighted 0 [] } ∷ []; priorities = []; entries = []; symbols = [] }) (97 ∷ 115 ∷ 112 ∷ 32 ∷ 49 ∷ 32 ∷ 48 ∷ 32 ∷ 48 ∷ 10 ∷ 49 ∷ 32 ∷ 48 ∷ 32 ∷ 49 ∷ 32 ∷ 49 ∷ 32 ∷ 49 ∷ 32 ∷ 49 ∷ 48 ∷ 48 ∷ 48 ∷ 48 ∷ 48 ∷ 48 ∷ 48 ∷ 48 ∷ 48 ∷ 32 ∷ 51 ∷ 32 ∷ 50 ∷ 32 ∷ 49 ∷ 48 ∷ 48 ∷ 48 ∷ 48 ∷ 48 ∷ 48 ∷ 32 ∷ 45 ∷ 50 ∷ 32 ∷ 48 ∷ 32 ∷ 50 ∷ 32 ∷ 49 ∷ 10 ∷ 49 ∷ 32 ∷ 49 ∷ 32 ∷ 48 ∷ 32 ∷ 49 ∷ 32 ∷ 48 ∷ 32 ∷ 48 ∷ 10 ∷ 48 ∷ 10 ∷ [])
unfolding text_of pieces same_bytes lines stepped_line statement token number digits decimal natural signed_token signed atom literal more opening normal_body weighed_field weighted_body body_field rule_line pair minimise_line symbol_line of_kind fits sum insert
edges_read = refl

-- ---- refusals, as one table

pub record Case : Type 0 where
  pub text : List ℕ
  pub number : ℕ
  pub line : ℕ

abbrev pub cases : List Case
cases =
    -- no text
    record { text = []; number = 1; line = 1 } ∷
    -- line 1 without its byte 10
    record { text = 97 ∷ 115 ∷ 112 ∷ 32 ∷ 49 ∷ 32 ∷ 48 ∷ 32 ∷ 48 ∷ []; number = 2; line = 1 } ∷
    -- line 1 differs
    record { text = 97 ∷ 115 ∷ 112 ∷ 32 ∷ 49 ∷ 32 ∷ 48 ∷ 32 ∷ 49 ∷ 10 ∷ 48 ∷ 10 ∷ []; number = 1; line = 1 } ∷
    -- no `0` line: at the line after the last
    record { text = 97 ∷ 115 ∷ 112 ∷ 32 ∷ 49 ∷ 32 ∷ 48 ∷ 32 ∷ 48 ∷ 10 ∷ []; number = 2; line = 2 } ∷
    -- the `0` line without its byte 10
    record { text = 97 ∷ 115 ∷ 112 ∷ 32 ∷ 49 ∷ 32 ∷ 48 ∷ 32 ∷ 48 ∷ 10 ∷ 48 ∷ []; number = 2; line = 2 } ∷
    -- after the `0` line: at the next line
    record { text = 97 ∷ 115 ∷ 112 ∷ 32 ∷ 49 ∷ 32 ∷ 48 ∷ 32 ∷ 48 ∷ 10 ∷ 48 ∷ 10 ∷ 10 ∷ []; number = 2; line = 3 } ∷
    -- `01` is 2
    record { text = 97 ∷ 115 ∷ 112 ∷ 32 ∷ 49 ∷ 32 ∷ 48 ∷ 32 ∷ 48 ∷ 10 ∷ 49 ∷ 32 ∷ 48 ∷ 32 ∷ 49 ∷ 32 ∷ 48 ∷ 49 ∷ 32 ∷ 48 ∷ 32 ∷ 48 ∷ 10 ∷ 48 ∷ 10 ∷ []; number = 2; line = 2 } ∷
    -- a field is judged whole
    record { text = 97 ∷ 115 ∷ 112 ∷ 32 ∷ 49 ∷ 32 ∷ 48 ∷ 32 ∷ 48 ∷ 10 ∷ 51 ∷ 120 ∷ 10 ∷ 48 ∷ 10 ∷ []; number = 2; line = 2 } ∷
    -- kind 3, the rest isn't read
    record { text = 97 ∷ 115 ∷ 112 ∷ 32 ∷ 49 ∷ 32 ∷ 48 ∷ 32 ∷ 48 ∷ 10 ∷ 51 ∷ 32 ∷ 48 ∷ 49 ∷ []; number = 3; line = 2 } ∷
    -- kind 11
    record { text = 97 ∷ 115 ∷ 112 ∷ 32 ∷ 49 ∷ 32 ∷ 48 ∷ 32 ∷ 48 ∷ 10 ∷ 49 ∷ 49 ∷ 10 ∷ 48 ∷ 10 ∷ []; number = 4; line = 2 } ∷
    -- h = 0 with m = 2
    record { text = 97 ∷ 115 ∷ 112 ∷ 32 ∷ 49 ∷ 32 ∷ 48 ∷ 32 ∷ 48 ∷ 10 ∷ 49 ∷ 32 ∷ 48 ∷ 32 ∷ 50 ∷ 32 ∷ 49 ∷ []; number = 3; line = 2 } ∷
    -- h = 0 with m = 1,025: range before accepted part
    record { text = 97 ∷ 115 ∷ 112 ∷ 32 ∷ 49 ∷ 32 ∷ 48 ∷ 32 ∷ 48 ∷ 10 ∷ 49 ∷ 32 ∷ 48 ∷ 32 ∷ 49 ∷ 48 ∷ 50 ∷ 53 ∷ []; number = 4; line = 2 } ∷
    -- b = 1 and no bound
    record { text = 97 ∷ 115 ∷ 112 ∷ 32 ∷ 49 ∷ 32 ∷ 48 ∷ 32 ∷ 48 ∷ 10 ∷ 49 ∷ 32 ∷ 48 ∷ 32 ∷ 48 ∷ 32 ∷ 49 ∷ []; number = 2; line = 2 } ∷
    -- b = 2
    record { text = 97 ∷ 115 ∷ 112 ∷ 32 ∷ 49 ∷ 32 ∷ 48 ∷ 32 ∷ 48 ∷ 10 ∷ 49 ∷ 32 ∷ 48 ∷ 32 ∷ 48 ∷ 32 ∷ 50 ∷ 32 ∷ 53 ∷ 32 ∷ 48 ∷ 10 ∷ 48 ∷ 10 ∷ []; number = 4; line = 2 } ∷
    -- bound 1,000,000,001
    record { text = 97 ∷ 115 ∷ 112 ∷ 32 ∷ 49 ∷ 32 ∷ 48 ∷ 32 ∷ 48 ∷ 10 ∷ 49 ∷ 32 ∷ 48 ∷ 32 ∷ 48 ∷ 32 ∷ 49 ∷ 32 ∷ 49 ∷ 48 ∷ 48 ∷ 48 ∷ 48 ∷ 48 ∷ 48 ∷ 48 ∷ 48 ∷ 49 ∷ 32 ∷ 48 ∷ 10 ∷ 48 ∷ 10 ∷ []; number = 4; line = 2 } ∷
    -- bound 99,999,999,999
    record { text = 97 ∷ 115 ∷ 112 ∷ 32 ∷ 49 ∷ 32 ∷ 48 ∷ 32 ∷ 48 ∷ 10 ∷ 49 ∷ 32 ∷ 48 ∷ 32 ∷ 48 ∷ 32 ∷ 49 ∷ 32 ∷ 57 ∷ 57 ∷ 57 ∷ 57 ∷ 57 ∷ 57 ∷ 57 ∷ 57 ∷ 57 ∷ 57 ∷ 57 ∷ 32 ∷ 48 ∷ 10 ∷ 48 ∷ 10 ∷ []; number = 4; line = 2 } ∷
    -- a bound with a minus
    record { text = 97 ∷ 115 ∷ 112 ∷ 32 ∷ 49 ∷ 32 ∷ 48 ∷ 32 ∷ 48 ∷ 10 ∷ 49 ∷ 32 ∷ 48 ∷ 32 ∷ 48 ∷ 32 ∷ 49 ∷ 32 ∷ 45 ∷ 49 ∷ 32 ∷ 48 ∷ 10 ∷ 48 ∷ 10 ∷ []; number = 2; line = 2 } ∷
    -- a count of pairs of a body with a minus
    record { text = 97 ∷ 115 ∷ 112 ∷ 32 ∷ 49 ∷ 32 ∷ 48 ∷ 32 ∷ 48 ∷ 10 ∷ 49 ∷ 32 ∷ 48 ∷ 32 ∷ 48 ∷ 32 ∷ 49 ∷ 32 ∷ 53 ∷ 32 ∷ 45 ∷ 49 ∷ 10 ∷ 48 ∷ 10 ∷ []; number = 2; line = 2 } ∷
    -- 1,025 pairs
    record { text = 97 ∷ 115 ∷ 112 ∷ 32 ∷ 49 ∷ 32 ∷ 48 ∷ 32 ∷ 48 ∷ 10 ∷ 49 ∷ 32 ∷ 48 ∷ 32 ∷ 48 ∷ 32 ∷ 49 ∷ 32 ∷ 53 ∷ 32 ∷ 49 ∷ 48 ∷ 50 ∷ 53 ∷ []; number = 4; line = 2 } ∷
    -- a pair's literal 0
    record { text = 97 ∷ 115 ∷ 112 ∷ 32 ∷ 49 ∷ 32 ∷ 48 ∷ 32 ∷ 48 ∷ 10 ∷ 49 ∷ 32 ∷ 48 ∷ 32 ∷ 48 ∷ 32 ∷ 49 ∷ 32 ∷ 53 ∷ 32 ∷ 49 ∷ 32 ∷ 48 ∷ 32 ∷ 49 ∷ 10 ∷ 48 ∷ 10 ∷ []; number = 4; line = 2 } ∷
    -- a pair's weight 1,000,001
    record { text = 97 ∷ 115 ∷ 112 ∷ 32 ∷ 49 ∷ 32 ∷ 48 ∷ 32 ∷ 48 ∷ 10 ∷ 49 ∷ 32 ∷ 48 ∷ 32 ∷ 48 ∷ 32 ∷ 49 ∷ 32 ∷ 53 ∷ 32 ∷ 49 ∷ 32 ∷ 49 ∷ 32 ∷ 49 ∷ 48 ∷ 48 ∷ 48 ∷ 48 ∷ 48 ∷ 49 ∷ 10 ∷ 48 ∷ 10 ∷ []; number = 4; line = 2 } ∷
    -- a pair's weight with a minus
    record { text = 97 ∷ 115 ∷ 112 ∷ 32 ∷ 49 ∷ 32 ∷ 48 ∷ 32 ∷ 48 ∷ 10 ∷ 49 ∷ 32 ∷ 48 ∷ 32 ∷ 48 ∷ 32 ∷ 49 ∷ 32 ∷ 53 ∷ 32 ∷ 49 ∷ 32 ∷ 49 ∷ 32 ∷ 45 ∷ 49 ∷ 10 ∷ 48 ∷ 10 ∷ []; number = 2; line = 2 } ∷
    -- a pair's weight -0
    record { text = 97 ∷ 115 ∷ 112 ∷ 32 ∷ 49 ∷ 32 ∷ 48 ∷ 32 ∷ 48 ∷ 10 ∷ 49 ∷ 32 ∷ 48 ∷ 32 ∷ 48 ∷ 32 ∷ 49 ∷ 32 ∷ 53 ∷ 32 ∷ 49 ∷ 32 ∷ 49 ∷ 32 ∷ 45 ∷ 48 ∷ 10 ∷ 48 ∷ 10 ∷ []; number = 2; line = 2 } ∷
    -- a pair without its weight
    record { text = 97 ∷ 115 ∷ 112 ∷ 32 ∷ 49 ∷ 32 ∷ 48 ∷ 32 ∷ 48 ∷ 10 ∷ 49 ∷ 32 ∷ 48 ∷ 32 ∷ 48 ∷ 32 ∷ 49 ∷ 32 ∷ 53 ∷ 32 ∷ 49 ∷ 32 ∷ 49 ∷ 10 ∷ 48 ∷ 10 ∷ []; number = 2; line = 2 } ∷
    -- atom 1,025 is 4
    record { text = 97 ∷ 115 ∷ 112 ∷ 32 ∷ 49 ∷ 32 ∷ 48 ∷ 32 ∷ 48 ∷ 10 ∷ 49 ∷ 32 ∷ 48 ∷ 32 ∷ 49 ∷ 32 ∷ 49 ∷ 48 ∷ 50 ∷ 53 ∷ 32 ∷ 48 ∷ 32 ∷ 48 ∷ 10 ∷ 48 ∷ 10 ∷ []; number = 4; line = 2 } ∷
    -- literal 0
    record { text = 97 ∷ 115 ∷ 112 ∷ 32 ∷ 49 ∷ 32 ∷ 48 ∷ 32 ∷ 48 ∷ 10 ∷ 49 ∷ 32 ∷ 48 ∷ 32 ∷ 48 ∷ 32 ∷ 48 ∷ 32 ∷ 49 ∷ 32 ∷ 48 ∷ 10 ∷ 48 ∷ 10 ∷ []; number = 4; line = 2 } ∷
    -- literal -0
    record { text = 97 ∷ 115 ∷ 112 ∷ 32 ∷ 49 ∷ 32 ∷ 48 ∷ 32 ∷ 48 ∷ 10 ∷ 49 ∷ 32 ∷ 48 ∷ 32 ∷ 48 ∷ 32 ∷ 48 ∷ 32 ∷ 49 ∷ 32 ∷ 45 ∷ 48 ∷ 10 ∷ 48 ∷ 10 ∷ []; number = 2; line = 2 } ∷
    -- an atom with a minus
    record { text = 97 ∷ 115 ∷ 112 ∷ 32 ∷ 49 ∷ 32 ∷ 48 ∷ 32 ∷ 48 ∷ 10 ∷ 49 ∷ 32 ∷ 48 ∷ 32 ∷ 49 ∷ 32 ∷ 45 ∷ 49 ∷ 32 ∷ 48 ∷ 32 ∷ 48 ∷ 10 ∷ 48 ∷ 10 ∷ []; number = 2; line = 2 } ∷
    -- a space at the end
    record { text = 97 ∷ 115 ∷ 112 ∷ 32 ∷ 49 ∷ 32 ∷ 48 ∷ 32 ∷ 48 ∷ 10 ∷ 49 ∷ 32 ∷ 48 ∷ 32 ∷ 48 ∷ 32 ∷ 48 ∷ 32 ∷ 48 ∷ 32 ∷ 10 ∷ 48 ∷ 10 ∷ []; number = 2; line = 2 } ∷
    -- priority -1,001
    record { text = 97 ∷ 115 ∷ 112 ∷ 32 ∷ 49 ∷ 32 ∷ 48 ∷ 32 ∷ 48 ∷ 10 ∷ 50 ∷ 32 ∷ 45 ∷ 49 ∷ 48 ∷ 48 ∷ 49 ∷ 32 ∷ 48 ∷ 10 ∷ 48 ∷ 10 ∷ []; number = 4; line = 2 } ∷
    -- weight 1,000,001
    record { text = 97 ∷ 115 ∷ 112 ∷ 32 ∷ 49 ∷ 32 ∷ 48 ∷ 32 ∷ 48 ∷ 10 ∷ 50 ∷ 32 ∷ 48 ∷ 32 ∷ 49 ∷ 32 ∷ 49 ∷ 32 ∷ 49 ∷ 48 ∷ 48 ∷ 48 ∷ 48 ∷ 48 ∷ 49 ∷ 10 ∷ 48 ∷ 10 ∷ []; number = 4; line = 2 } ∷
    -- weight -1,000,001
    record { text = 97 ∷ 115 ∷ 112 ∷ 32 ∷ 49 ∷ 32 ∷ 48 ∷ 32 ∷ 48 ∷ 10 ∷ 50 ∷ 32 ∷ 48 ∷ 32 ∷ 49 ∷ 32 ∷ 49 ∷ 32 ∷ 45 ∷ 49 ∷ 48 ∷ 48 ∷ 48 ∷ 48 ∷ 48 ∷ 49 ∷ 10 ∷ 48 ∷ 10 ∷ []; number = 4; line = 2 } ∷
    -- weight -0
    record { text = 97 ∷ 115 ∷ 112 ∷ 32 ∷ 49 ∷ 32 ∷ 48 ∷ 32 ∷ 48 ∷ 10 ∷ 50 ∷ 32 ∷ 48 ∷ 32 ∷ 49 ∷ 32 ∷ 49 ∷ 32 ∷ 45 ∷ 48 ∷ 10 ∷ 48 ∷ 10 ∷ []; number = 2; line = 2 } ∷
    -- weight -01
    record { text = 97 ∷ 115 ∷ 112 ∷ 32 ∷ 49 ∷ 32 ∷ 48 ∷ 32 ∷ 48 ∷ 10 ∷ 50 ∷ 32 ∷ 48 ∷ 32 ∷ 49 ∷ 32 ∷ 49 ∷ 32 ∷ 45 ∷ 48 ∷ 49 ∷ 10 ∷ 48 ∷ 10 ∷ []; number = 2; line = 2 } ∷
    -- a minus and no weight
    record { text = 97 ∷ 115 ∷ 112 ∷ 32 ∷ 49 ∷ 32 ∷ 48 ∷ 32 ∷ 48 ∷ 10 ∷ 50 ∷ 32 ∷ 48 ∷ 32 ∷ 49 ∷ 32 ∷ 49 ∷ 32 ∷ 45 ∷ 10 ∷ 48 ∷ 10 ∷ []; number = 2; line = 2 } ∷
    -- a count of pairs with a minus
    record { text = 97 ∷ 115 ∷ 112 ∷ 32 ∷ 49 ∷ 32 ∷ 48 ∷ 32 ∷ 48 ∷ 10 ∷ 50 ∷ 32 ∷ 48 ∷ 32 ∷ 45 ∷ 49 ∷ 32 ∷ 49 ∷ 32 ∷ 53 ∷ 10 ∷ 48 ∷ 10 ∷ []; number = 2; line = 2 } ∷
    -- a name byte 127
    record { text = 97 ∷ 115 ∷ 112 ∷ 32 ∷ 49 ∷ 32 ∷ 48 ∷ 32 ∷ 48 ∷ 10 ∷ 52 ∷ 32 ∷ 49 ∷ 32 ∷ 127 ∷ 32 ∷ 48 ∷ 10 ∷ 48 ∷ 10 ∷ []; number = 2; line = 2 } ∷
    -- a 65-byte name is 4
    record { text = 97 ∷ 115 ∷ 112 ∷ 32 ∷ 49 ∷ 32 ∷ 48 ∷ 32 ∷ 48 ∷ 10 ∷ 52 ∷ 32 ∷ 54 ∷ 53 ∷ 32 ∷ 110 ∷ 110 ∷ 110 ∷ 110 ∷ 110 ∷ 110 ∷ 110 ∷ 110 ∷ 110 ∷ 110 ∷ 110 ∷ 110 ∷ 110 ∷ 110 ∷ 110 ∷ 110 ∷ 110 ∷ 110 ∷ 110 ∷ 110 ∷ 110 ∷ 110 ∷ 110 ∷ 110 ∷ 110 ∷ 110 ∷ 110 ∷ 110 ∷ 110 ∷ 110 ∷ 110 ∷ 110 ∷ 110 ∷ 110 ∷ 110 ∷ 110 ∷ 110 ∷ 110 ∷ 110 ∷ 110 ∷ 110 ∷ 110 ∷ 110 ∷ 110 ∷ 110 ∷ 110 ∷ 110 ∷ 110 ∷ 110 ∷ 110 ∷ 110 ∷ 110 ∷ 110 ∷ 110 ∷ 110 ∷ 110 ∷ 110 ∷ 110 ∷ 110 ∷ 110 ∷ 110 ∷ 110 ∷ 110 ∷ 110 ∷ 110 ∷ 32 ∷ 48 ∷ 10 ∷ 48 ∷ 10 ∷ []; number = 4; line = 2 } ∷
    -- nine priorities are 5
    record { text = 97 ∷ 115 ∷ 112 ∷ 32 ∷ 49 ∷ 32 ∷ 48 ∷ 32 ∷ 48 ∷ 10 ∷ 50 ∷ 32 ∷ 48 ∷ 32 ∷ 48 ∷ 10 ∷ 50 ∷ 32 ∷ 49 ∷ 32 ∷ 48 ∷ 10 ∷ 50 ∷ 32 ∷ 50 ∷ 32 ∷ 48 ∷ 10 ∷ 50 ∷ 32 ∷ 51 ∷ 32 ∷ 48 ∷ 10 ∷ 50 ∷ 32 ∷ 52 ∷ 32 ∷ 48 ∷ 10 ∷ 50 ∷ 32 ∷ 53 ∷ 32 ∷ 48 ∷ 10 ∷ 50 ∷ 32 ∷ 54 ∷ 32 ∷ 48 ∷ 10 ∷ 50 ∷ 32 ∷ 55 ∷ 32 ∷ 48 ∷ 10 ∷ 50 ∷ 32 ∷ 56 ∷ 32 ∷ 48 ∷ 10 ∷ 48 ∷ 10 ∷ []; number = 5; line = 10 } ∷
    []

pub refusals : map (λ (c : Case). text_of c.text) cases ≡ map (λ (c : Case). refused c.number c.line) cases
unfolding text_of pieces same_bytes lines stepped_line statement token number digits decimal natural signed_token signed atom literal more opening normal_body weighed_field weighted_body body_field rule_line pair minimise_line symbol_line of_kind fits sum insert
refusals = refl
