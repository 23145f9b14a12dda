-- Each public call's contract can be met in one way only. Assumes nothing.
use Rattle.std.specs.Prelude.{false, pos}
use mathlib.Core.Path.{sym, ap, ◌∙◌}
use Rattle.arithmetic.specs.Extension.{triple}
use Rattle.layout.specs.Calls.{no_node, start_call, read_call, used_call, free_call}
use Rattle.layout.proofs.Unique.{told_once, answer_once}
use Rattle.classes.specs.Classes.{equal_call}
use Rattle.building.specs.Calls.{input_call, challenge_call, base_call, zero_call, one_call, minus_one_call, extension_call, operation_call, subtract_call, negate_call, sum_call}
use Rattle.walking.specs.Calls.{walk_call, count_call, counts_call}
use Rattle.reading.specs.Calls.{is_zero_call, is_one_call, is_minus_one_call, degree_call, highest_call, base_test_call, evaluate_call, visible_call}
use Rattle.lowering.specs.Calls.{lower_call}
use Rattle.filling.specs.Calls.{fill_call, fill_rows_call}
use Rattle.framing.specs.Frames.{Framed}
use Rattle.grown.specs.Outcomes.{Determined}

pub determined : Determined
determined =
    record {
      start = λ m kind. told_once tt (start_call m kind);
      is_circuit = λ m r s a b. a ∙ sym b;
      read = λ m i. answer_once no_node (read_call m i);
      used = λ m. answer_once 0 (used_call m);
      free = λ m. answer_once 0 (free_call m);
      equal = λ m i j. answer_once false (equal_call m i j);
      input = λ m q. told_once 0 (input_call m q);
      challenge = λ m k. told_once 0 (challenge_call m k);
      base_constant = λ m w. told_once 0 (base_call m w);
      zero = λ m. told_once 0 (zero_call m);
      one = λ m. told_once 0 (one_call m);
      minus_one = λ m. told_once 0 (minus_one_call m);
      extension_constant = λ m x. told_once 0 (extension_call m x);
      operation = λ m o l r. told_once 0 (operation_call m o l r);
      subtract = λ m a b. told_once 0 (subtract_call m a b);
      negate = λ m a. told_once 0 (negate_call m a);
      sum = λ m ids. told_once 0 (sum_call m ids);
      walk = λ m roots list stack. told_once 0 (walk_call m roots list stack);
      count_references = λ m roots. told_once tt (count_call m roots);
      distinct_counts = λ m i list. told_once 0 (counts_call m i list);
      is_zero = λ m i. answer_once false (is_zero_call m i);
      is_one = λ m i. answer_once false (is_one_call m i);
      is_minus_one = λ m i. answer_once false (is_minus_one_call m i);
      base-test = λ m i. answer_once false (base_test_call m i);
      degree = λ m i. answer_once (pos 0) (degree_call m i);
      highest = λ m roots. answer_once (pos 0) (highest_call m roots);
      evaluate = λ m i main aux challenges. answer_once (triple 0 0 0) (evaluate_call m i main aux challenges);
      visible = λ m roots. answer_once 0 (visible_call m roots);
      lower = λ target main_count aux_count lent. told_once (0, 0) (lower_call target main_count aux_count lent);
      fill = λ main_count aux_count m mains auxs challenges main aux. told_once tt (fill_call main_count aux_count m mains auxs challenges main aux);
      fill_rows = λ main_count aux_count m mains auxs challenges rows main aux. told_once tt (fill_rows_call main_count aux_count m mains auxs challenges rows main aux);
      frame = λ s line answer n k x y a b e f. (ap (λ (o : Framed). o.written) (e ∙ sym f), (ap (λ (o : Framed). o.state) (e ∙ sym f), ap (λ (o : Framed). o.answer) (e ∙ sym f)));
    }
