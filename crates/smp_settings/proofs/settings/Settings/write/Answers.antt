use Rattle.std.proofs.Common.{◌≡◌, ◌<◌, length, true, arith}
use Rattle.std.proofs.lemmas.Bool.Decides.{nat_tests}
use Rattle.std.proofs.lemmas.Str.{is_utf8-from_IsUtf8}
use Rattle.smp_model.specs.Settings.{is_setting, setting}
use Rattle.smp_settings.proofs.Changing.{given_room, given_made}
use Rattle.smp_settings.proofs.Saving.{lawful_setting}
use Rattle.smp_settings.proofs.settings.Settings.write.Goals as goal

pub put-requires-clause-room : goal.put-requires-clause-room
put-requires-clause-room c =
    let some : 0 < length c.args.name.now = grind (arith, nat_tests, c.is_empty.ensures, c.if-is_empty.false) in
    let lawful : is_setting (setting c.args.name.now c.args.val.now) ≡ true =
    lawful_setting c.args.name.now c.args.val.now some (omega arith) (is_utf8-from_IsUtf8 c.args.name.now c.utf8.name) (omega arith) in
    given_room c.args.name.now c.args.val.now c.self.inside.running c.self.invariant.3 lawful (cc c.if-is_full.ensures)

pub invariant_of-self : goal.invariant_of-self
invariant_of-self c =
    let some : 0 < length c.args.name.now = grind (arith, nat_tests, c.is_empty.ensures, c.if-is_empty.false) in
    let lawful : is_setting (setting c.args.name.now c.args.val.now) ≡ true =
    lawful_setting c.args.name.now c.args.val.now some (omega arith) (is_utf8-from_IsUtf8 c.args.name.now c.utf8.name) (omega arith) in
    let made = given_made c.args.name.now c.args.val.now c.self.inside.running c.put.new.self c.self.invariant.3 lawful (cc c.if-is_full.ensures) c.put.ensures in
    (c.self.invariant.0, c.self.invariant.1, c.self.invariant.2, made.1, c.self.invariant.4)
