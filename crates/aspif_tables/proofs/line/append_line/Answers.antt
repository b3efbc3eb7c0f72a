use Rattle.std.proofs.Common.{◌≡◌, ◌+◌, ◌-◌, length, refl, arith}
use Rattle.aspif_lines.proofs.Spans.{kept_set}
use Rattle.aspif_tables.proofs.Pieces.{put_kept, put_copied, appended, appended_part}
use Rattle.aspif_tables.proofs.line.append_line.Goals as goal

pub returns : goal.returns
returns c =
    let t = c.args.text.now in
    let s = c.args.s.now in
    let used = c.args.used in
    let n : used + length s - used ≡ length s = omega arith in
    let kept = put_kept t s used (used + length s - used) n (omega arith) in
    let copied = put_copied t s used (used + length s - used) n (omega arith) in
    rw c.copy_from_slice.ensures.after (
    record {
      ends = refl;
      whole = appended t _ s used kept copied (omega (arith, kept.long));
      kept = kept_set 0 used t _ (used + length s) 10 kept (omega arith);
      part = appended_part t _ s used kept copied (omega (arith, kept.long));
    }
    )
