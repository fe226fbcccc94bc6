use Rattle.std.proofs.Common.{◌≡◌, ◌<◌, ◌^◌, take}
use Rattle.report_reader.specs.Fields.{value_of}
use Rattle.report_reader.proofs.fields.value_of.Given as goal

abbrev pub invariant-loop-b : goal.invariant-loop-b
invariant-loop-b l = record {
  value : l.value ≡ value_of (take l.b-index l.field);
  bound : l.value < 10 ^ l.b-index;
}
