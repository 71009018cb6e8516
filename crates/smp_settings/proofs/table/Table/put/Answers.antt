use Rattle.std.proofs.Common.{◌≡◌, ◌∙◌, ◌<◌, ◌≤◌, sym, subst, true, None, List, length, arith, ap}
use Rattle.smp_model.specs.declared.setting.Setting.{Setting}
use Rattle.smp_model.specs.Named.{is_ascending, named}
use Rattle.smp_settings.proofs.Naming.{without_ascending, named_without}
use Rattle.smp_settings.proofs.Tables.{put_at, rank_small, room_for}
use Rattle.smp_settings.proofs.table.Table.put.Goals as goal

pub rank-at-requires-clause-sorted : goal.rank-at-requires-clause-sorted
rank-at-requires-clause-sorted c =
    subst (λ (xs : List Setting). is_ascending (λ (s : Setting). s.name) xs ≡ true) (sym c.remove.ensures.removed) (without_ascending (λ (s : Setting). s.name) c.args.name.now c.args.self.now c.requires.sorted)

pub rank-at-requires-clause-new : goal.rank-at-requires-clause-new
rank-at-requires-clause-new c =
    subst (λ (xs : List Setting). named (λ (s : Setting). s.name) c.args.name.now xs ≡ None) (sym c.remove.ensures.removed) (named_without (λ (s : Setting). s.name) c.args.name.now c.args.self.now)

pub insert-requires : goal.insert-requires
insert-requires c =
    let small : c.rank-at.result ≤ length c.remove.new.self = rank_small c.rank-at.result c.args.name.now c.remove.new.self c.rank-at.ensures in
    let room : length c.remove.new.self < 32 = room_for c.args.name.now c.args.val.now c.remove.new.self c.args.self.now c.remove.ensures.removed c.requires.sorted c.requires.room in
    let same = ap length c.self.view_is in
    (omega arith, (omega (arith, small, same), omega (arith, room, same)))

pub returns : goal.returns
returns c =
    c.insert.ensures.items
    ∙ put_at c.rank-at.result c.args.name.now c.args.val.now c.self.inside.entries.items c.remove.new.self c.args.self.now c.new.result c.self.view_is c.remove.ensures.removed c.new.ensures c.rank-at.ensures
