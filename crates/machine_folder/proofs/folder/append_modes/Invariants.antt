use Rattle.std.proofs.Common.{◌≤◌, ◌^◌, map, take, vec_len}
use Rattle.machine_folder.specs.Bundles.{AreJoined}
use Rattle.machine_folder.proofs.folder.append_modes.Given as goal

-- the texts of the first modes are joined, and the bundle is not too long
abbrev pub invariant-loop-mode : goal.invariant-loop-mode
invariant-loop-mode g l = record {
  joined : AreJoined (g.T.Texts.text_at l.texts) l.folder (map (λ mode. mode.items) (take l.mode-index l.modes))
      l.fn.bundle.items l.bundle.items;
  within : vec_len l.bundle ≤ 2 ^ 23;
}
