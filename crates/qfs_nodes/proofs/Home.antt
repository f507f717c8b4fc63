-- Devices go home.
use Rattle.std.proofs.Common.{◌≡◌, ℕ, List, [], ◌∷◌, ◌++◌, length, take, drop, Option, refl, sym, ◌∙◌, ap, ap₂, subst, arith, append_assoc}
use Rattle.std.specs.Prelude.{map}
use Rattle.std.proofs.lemmas.Grind.{common_steps}
use Rattle.std.proofs.lemmas.List.{length-map}
use Rattle.qfs_device.specs.Held.{Held}
use Rattle.qfs_meta.specs.Metaserver.{Metaserver}
use Rattle.qfs_store.specs.Stored.{Stored}
use Rattle.qfs_nodes.specs.Nodes.{AreHome, StartsWithMeta, image_of, nodes_with, stores_of}
use Rattle.qfs_nodes.specs.declared.node.NodeState.{NodeState}
use Rattle.qfs_nodes.specs.declared.node.NodeState.TheVariants as Node
use Rattle.qfs_nodes.proofs.Stores.{stores-with}

-- of these chunk servers those behind the ones that are left have given their devices back
pub record GivenBack {D : Type 0} (told : D → Option Held) (faults : D → ℕ) (all left : List Stored) (others devices : List D) : Type 0 where
  pub given : List Stored
  pub home : List D
  pub all_are : all ≡ left ++ given
  pub devices_are : devices ≡ home ++ others
  pub told_are : map told home ≡ map (λ (stored : Stored). stored.told) given
  pub faults_are : map faults home ≡ map (λ (stored : Stored). stored.faults) given

module _ {D : Type 0} where
  -- the last of these chunk servers
  record LastStore (rest : List (NodeState D)) (stored : Stored) (stores : List Stored) : Type 0 where
    pub front : List Stored
    pub rest_are : rest ≡ map Node.Store front
    pub stores_are : stores ≡ front ++ stored ∷ []

  last-store : (rest : List (NodeState D)) (stored : Stored) (stores : List Stored)
      → rest ++ Node.Store stored ∷ [] ≡ map Node.Store stores → LastStore rest stored stores
  last-store [] stored [] e = absurd (cc)
  last-store [] stored (x ∷ []) e =
      let same : stored ≡ x = cc in record { front = []; rest_are = refl; stores_are = ap (λ s. s ∷ []) (sym same) }
  last-store [] stored (x ∷ y ∷ more) e = absurd (cc)
  last-store (node ∷ rest) stored [] e = absurd (cc)
  last-store (node ∷ rest) stored (x ∷ stores) e =
      let first : node ≡ Node.Store x = cc in
      let tail : rest ++ Node.Store stored ∷ [] ≡ map Node.Store stores = cc in
      let last = last-store rest stored stores tail in
      record { front = x ∷ last.front; rest_are = ap₂ (λ n ns. n ∷ ns) first last.rest_are; stores_are = ap (λ s. x ∷ s) last.stores_are }

  -- the nodes without the last chunk server
  pub record Popped (rest : List (NodeState D)) (stored : Stored) (nodes : List (NodeState D)) : Type 0 where
    pub starts : StartsWithMeta rest
    pub stores_are : stores_of nodes ≡ stores_of rest ++ stored ∷ []
    pub image : image_of rest ≡ image_of nodes

  popped-at : (rest : List (NodeState D)) (stored : Stored) (meta : Metaserver) (stores : List Stored)
      → rest ++ Node.Store stored ∷ [] ≡ nodes_with meta stores → Popped rest stored (nodes_with meta stores)
  popped-at [] stored meta stores e = absurd (cc)
  popped-at (node ∷ rest) stored meta stores e =
      let first : node ≡ Node.Meta meta = cc in
      let tail : rest ++ Node.Store stored ∷ [] ≡ map Node.Store stores = cc in
      let last = last-store rest stored stores tail in
      let all : node ∷ rest ≡ nodes_with meta last.front = ap₂ (λ n ns. n ∷ ns) first last.rest_are in
      let fronts : stores_of (node ∷ rest) ≡ last.front = ap stores_of all ∙ stores-with D meta last.front in
      record {
        starts = record { meta = meta; nodes_are = all ∙ ap (λ ss. nodes_with meta ss) (sym fronts) };
        stores_are = stores-with D meta stores ∙ last.stores_are ∙ ap (λ ss. ss ++ stored ∷ []) (sym fronts);
        image = ap image_of all;
      }

  pub popped : (nodes rest : List (NodeState D)) (node : NodeState D) (stored : Stored) → StartsWithMeta nodes
      → nodes ≡ rest ++ node ∷ [] → node ≡ Node.Store stored → Popped rest stored nodes
  popped nodes rest node stored starts e is =
      let same : rest ++ Node.Store stored ∷ [] ≡ nodes_with starts.meta (stores_of nodes) =
      ap (λ n. rest ++ n ∷ []) (sym is) ∙ sym e ∙ starts.nodes_are in
      subst (Popped rest stored) (sym starts.nodes_are) (popped-at rest stored starts.meta (stores_of nodes) same)

  -- the metaserver is the last node that is left
  pub record LastMeta (nodes : List (NodeState D)) (meta : Metaserver) : Type 0 where
    pub none : stores_of nodes ≡ []
    pub image : image_of nodes ≡ meta.image

  last-meta-at : (rest : List (NodeState D)) (meta own : Metaserver) (stores : List Stored)
      → rest ++ Node.Meta meta ∷ [] ≡ nodes_with own stores → LastMeta (nodes_with own stores) meta
  last-meta-at [] meta own [] e = let same : own ≡ meta = cc in record { none = refl; image = ap (λ (m : Metaserver). m.image) same }
  last-meta-at [] meta own (x ∷ stores) e = absurd (cc)
  last-meta-at (node ∷ rest) meta own stores e =
      let tail : rest ++ Node.Meta meta ∷ [] ≡ map Node.Store stores = cc in absurd (no_meta rest stores tail)
    where
      no_meta : (ns : List (NodeState D)) (ss : List Stored) → ns ++ Node.Meta meta ∷ [] ≡ map Node.Store ss → ⊥
      no_meta [] [] e = cc
      no_meta [] (s ∷ ss) e = cc
      no_meta (n ∷ ns) [] e = cc
      no_meta (n ∷ ns) (s ∷ ss) e = let tail : ns ++ Node.Meta meta ∷ [] ≡ map Node.Store ss = cc in no_meta ns ss tail

  pub last-meta : (nodes rest : List (NodeState D)) (node : NodeState D) (meta : Metaserver) → StartsWithMeta nodes
      → nodes ≡ rest ++ node ∷ [] → node ≡ Node.Meta meta → LastMeta nodes meta
  last-meta nodes rest node meta starts e is =
      let same : rest ++ Node.Meta meta ∷ [] ≡ nodes_with starts.meta (stores_of nodes) =
      ap (λ n. rest ++ n ∷ []) (sym is) ∙ sym e ∙ starts.nodes_are in
      let P : List (NodeState D) → Type 0 = λ ns. LastMeta ns meta in
      subst P (sym starts.nodes_are) (last-meta-at rest meta starts.meta (stores_of nodes) same)

  module _ (told : D → Option Held) (faults : D → ℕ) (all : List Stored) (others : List D) where
    -- one device more
    pub gives : (left front : List Stored) (stored : Stored) (devices new : List D) (device : D)
        → GivenBack told faults all left others devices → left ≡ front ++ stored ∷ []
        → told device ≡ stored.told → faults device ≡ stored.faults → new ≡ device ∷ devices
        → GivenBack told faults all front others new
    gives left front stored devices new device back l t f n = record {
      given = stored ∷ back.given;
      home = device ∷ back.home;
      all_are = back.all_are ∙ ap (λ ss. ss ++ back.given) l ∙ append_assoc front (stored ∷ []) back.given;
      devices_are = n ∙ ap (λ ds. device ∷ ds) back.devices_are;
      told_are = ap₂ (λ x xs. x ∷ xs) t back.told_are;
      faults_are = ap₂ (λ x xs. x ∷ xs) f back.faults_are;
    }

    -- all devices
    pub all-home : (left : List Stored) (devices : List D) → GivenBack told faults all left others devices → left ≡ []
        → AreHome told faults all others devices
    all-home left devices back none =
        let given : all ≡ back.given = back.all_are ∙ ap (λ ss. ss ++ back.given) none in
        let long : length back.home ≡ length all =
        sym (length-map back.home faults) ∙ ap length back.faults_are ∙ length-map back.given (λ (s : Stored). s.faults) ∙ ap length (sym given) in
        let front : take (length all) devices ≡ back.home = ap (take (length all)) back.devices_are ∙ home-front (length all) back.home long in
        let behind : drop (length all) devices ≡ others = ap (drop (length all)) back.devices_are ∙ home-behind (length all) back.home long in
        record {
          told_are = ap (map told) front ∙ back.told_are ∙ ap (map (λ (s : Stored). s.told)) (sym given);
          faults_are = ap (map faults) front ∙ back.faults_are ∙ ap (map (λ (s : Stored). s.faults)) (sym given);
          others_are = behind;
        }
      where
        home-front : (n : ℕ) (home : List D) → length home ≡ n → take n (home ++ others) ≡ home
        home-front n home e = grind (arith, common_steps)

        home-behind : (n : ℕ) (home : List D) → length home ≡ n → drop n (home ++ others) ≡ others
        home-behind n home e = grind (arith, common_steps)
