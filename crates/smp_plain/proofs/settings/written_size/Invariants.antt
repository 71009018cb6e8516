use Rattle.std.proofs.Common.{◌≡◌, ◌+◌, ◌-◌, ◌^◌, length, min, take}
use Rattle.std.specs.List.{sum_by}
use Rattle.smp_plain.specs.Plain.{size_beside}
use Rattle.smp_plain.proofs.settings.written_size.Given as goal

abbrev pub invariant-loop-setting : goal.invariant-loop-setting
invariant-loop-setting l =
    l.size ≡ min ((4 + length l.name + length l.val) + sum_by (size_beside l.name) (take l.setting-index l.settings)) (2 ^ 64 - 1)
