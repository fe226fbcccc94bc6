use Rattle.std.proofs.Common.{◌≡◌, ◌<◌, ◌^◌, take}
use Rattle.tableau_file.specs.Numbers.{value_of}
use Rattle.tableau_file.proofs.numbers.value_of.Given as goal

abbrev pub invariant-loop-c : goal.invariant-loop-c
invariant-loop-c l = record {
  value : l.value ≡ value_of (take l.c-index l.text);
  bound : l.value < 10 ^ l.c-index;
}
