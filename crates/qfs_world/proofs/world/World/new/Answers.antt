-- The world in which a script starts.
use Rattle.std.proofs.Common.{◌≡◌, ◌++◌, length, refl, ◌∙◌, ap, arith, length-drop}
use Rattle.std.specs.Prelude.{drop, map}
use Rattle.qfs_base.specs.Rules.{rules_of}
use Rattle.qfs_nodes.specs.Actors.{actors_of}
use Rattle.qfs_nodes.specs.Scripts.{commands_by_actor}
use Rattle.qfs_nodes.specs.declared.node.NodeState.TheVariants as Node
use Rattle.qfs_world.proofs.Begin.{first_meta, first_stores, begins, image-is, stores-are, stores-many}
use Rattle.qfs_nodes.specs.Nodes.{nodes_with}
use Rattle.qfs_nodes.proofs.Starts.{starts-actors}
use Rattle.qfs_world.proofs.world.World.new.Goals as goal

pub invariant_of-result : goal.invariant_of-result
invariant_of-result g c =
    let told = g.D.ChunkDevice.told in
    let faults = g.D.ChunkDevice.faults in
    let script = c.args.script.now in
    let devices = c.args.devices.items in
    let nodes : c.take_devices.new.nodes.items ≡ nodes_with (first_meta script) (first_stores told faults script devices) =
    c.take_devices.ensures.nodes ∙ (λ i. c.in-Ok.ensures.nodes i ++ map Node.Store (first_stores told faults (c.script.view_is i) devices)) in
    let work =
    begins told faults script devices c.take_devices.new.nodes.items c.in-Ok.field-0.actors.items c.in-Ok.field-0.phases.items
    c.requires.runnable c.requires.enough c.requires.fresh nodes c.in-Ok.ensures.actors c.in-Ok.ensures.phases in
    let many =
    stores-many told faults script devices c.take_devices.new.nodes.items c.in-Ok.field-0.actors.items c.in-Ok.field-0.phases.items
    c.requires.runnable c.requires.enough c.requires.fresh nodes c.in-Ok.ensures.actors c.in-Ok.ensures.phases in
    let left =
    ap length c.take_devices.ensures.devices ∙ (λ i. length (drop (c.script.view_is i).servers devices)) ∙ length-drop script.servers devices in
    rw (c.of.ensures, c.counts_at_start-counts.ensures, c.new.ensures) (work, omega (arith, many, left, c.take_devices.ensures.capacity, c.args.devices.ok.0, c.args.devices.ok.1, c.requires.enough))

pub returns-in-Ok-clause-ok : goal.returns-in-Ok-clause-ok
returns-in-Ok-clause-ok g c =
    let told = g.D.ChunkDevice.told in
    let faults = g.D.ChunkDevice.faults in
    let script = c.args.script.now in
    let devices = c.args.devices.items in
    let nodes : c.take_devices.new.nodes.items ≡ nodes_with (first_meta script) (first_stores told faults script devices) =
    c.take_devices.ensures.nodes ∙ (λ i. c.in-Ok.ensures.nodes i ++ map Node.Store (first_stores told faults (c.script.view_is i) devices)) in
    record {
      script_is = c.of.ensures;
      counts_are = c.counts_at_start-counts.ensures;
      meta_is =
          image-is told faults script devices c.take_devices.new.nodes.items c.in-Ok.field-0.actors.items c.in-Ok.field-0.phases.items
          c.requires.runnable c.requires.enough c.requires.fresh nodes c.in-Ok.ensures.actors c.in-Ok.ensures.phases;
      stores_are =
          stores-are told faults script devices c.take_devices.new.nodes.items c.in-Ok.field-0.actors.items c.in-Ok.field-0.phases.items
          c.requires.runnable c.requires.enough c.requires.fresh nodes c.in-Ok.ensures.actors c.in-Ok.ensures.phases;
      actors_are = ap actors_of c.in-Ok.ensures.actors ∙ starts-actors (rules_of script) 1 (commands_by_actor script);
      order_is = c.new.ensures;
      spare_are = c.take_devices.ensures.devices ∙ (λ i. drop (c.script.view_is i).servers devices);
      disks_are = refl;
    }
