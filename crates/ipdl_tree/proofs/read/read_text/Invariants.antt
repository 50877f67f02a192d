use Rattle.std.proofs.Common.{◌≡◌, ◌≤◌, length, take, drop, Ok}
use Rattle.std.specs.Str.{chars, encode_utf8_all}
use Rattle.ipdl_tree.specs.Reading.{nothing_read, refusal_of, read_on}
use Rattle.ipdl_tree.specs.ReaderViews.{reading, IsTokenAfter}
use Rattle.ipdl_tree.proofs.read.read_text.Given as goal

abbrev pub invariant-loop-c : goal.invariant-loop-c
invariant-loop-c l = record {
  within : l.at ≤ length l.text;
  rest : drop l.at l.text ≡ encode_utf8_all (drop (length l.yielded) (chars l.text));
  token : IsTokenAfter (take l.at l.text) l.reader.token;
  read :
      read_on refusal_of (reading (take l.at l.text) l.reader) l.at (drop (length l.yielded) (chars l.text)) (λ r _. Ok r)
      ≡ read_on refusal_of nothing_read 0 (chars l.text) (λ r _. Ok r);
}
