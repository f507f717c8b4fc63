-- One node less.
use Rattle.std.proofs.Common.{[], ◌∷◌, length, refl, sym, ◌∙◌, ap, arith, length-append}
use Rattle.std.proofs.lemmas.List.{append-nil}
use Rattle.qfs_nodes.specs.Nodes.{stores_of}
use Rattle.qfs_nodes.proofs.Home.{popped, last-meta, gives, all-home}
use Rattle.qfs_nodes.proofs.ending.hand_back.Goals as goal

pub loop-node-init : goal.loop-node-init
loop-node-init g c = record {
  meta_first = c.requires.nodes;
  image = refl;
  room = c.requires.room;
  given = record {
    given = [];
    home = [];
    all_are = sym (append-nil (stores_of c.args.nodes.items));
    devices_are = refl;
    told_are = refl;
    faults_are = refl;
  };
}

pub loop-node-preserved : goal.loop-node-preserved
loop-node-preserved g c =
    let told = g.D.ChunkDevice.told in
    let faults = g.D.ChunkDevice.faults in
    let invariant = c.loop-node.invariant in
    let less = popped c.loop-node.nodes.items c.pop.new.self.items c.in-Some.node c.in-Store.store invariant.meta_first c.in-Some.ensures.items c.in-Store.is in
    let fewer = ap length less.stores_are ∙ length-append (stores_of c.pop.new.self.items) (c.in-Store.store ∷ []) in
    let more = ap length c.put_first.ensures.devices in
    record {
      meta_first = less.starts;
      image = less.image ∙ invariant.image;
      room = omega (arith, invariant.room, fewer, more, c.put_first.ensures.capacity);
      given =
          gives told faults (stores_of c.args.nodes.items) c.args.devices.now.items (stores_of c.loop-node.nodes.items) (stores_of c.pop.new.self.items)
          c.in-Store.store c.loop-node.devices.items c.put_first.new.devices.items c.into_device.result invariant.given less.stores_are
          c.into_device.ensures.told c.into_device.ensures.faults c.put_first.ensures.devices;
    }

pub returns-in-Meta-clause-image : goal.returns-in-Meta-clause-image
returns-in-Meta-clause-image g c =
    let last = last-meta c.loop-node.nodes.items c.pop.new.self.items c.in-Some.node c.in-Meta.meta c.loop-node.invariant.meta_first c.in-Some.ensures.items c.in-Meta.is in
    c.into_image.ensures ∙ sym last.image ∙ c.loop-node.invariant.image

pub returns-in-Meta-clause-home : goal.returns-in-Meta-clause-home
returns-in-Meta-clause-home g c =
    let last = last-meta c.loop-node.nodes.items c.pop.new.self.items c.in-Some.node c.in-Meta.meta c.loop-node.invariant.meta_first c.in-Some.ensures.items c.in-Meta.is in
    all-home g.D.ChunkDevice.told g.D.ChunkDevice.faults (stores_of c.args.nodes.items) c.args.devices.now.items
    (stores_of c.loop-node.nodes.items) c.loop-node.devices.items c.loop-node.invariant.given last.none
