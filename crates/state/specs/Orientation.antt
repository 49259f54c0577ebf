-- 002's sgp4: orientation vectors, position and velocity (lines 3573-3594). Definitions only.
use Rattle.std.specs.Prelude.{Bool, ◌&&◌, Float}
use Rattle.std.specs.Float.Ieee.{neg}
use Rattle.elementary.specs.Notation.{◌⊕◌, ◌⊖◌, ◌⊗◌, finite}
use Rattle.elementary.specs.Trig.{sin_cos}
use Rattle.trigonometry.specs.declared.SinCos.{SinCos}
use Rattle.wgs72.specs.Getgravconst.{radiusearthkm}
use Rattle.wgs72.specs.Computed.{vkmpersec}
use Rattle.state.specs.declared.parts.Short.{Short}
use Rattle.state.specs.declared.answer.State.{State}

-- 3579-3594, of the sines and cosines of su, xnode and xinc, and vkmpersec
unfoldable pub oriented : Short → SinCos → SinCos → SinCos → Float → State
oriented short su xnode xinc v =
    let sinsu = su.sin in
    let cossu = su.cos in
    let snod = xnode.sin in
    let cnod = xnode.cos in
    let sini = xinc.sin in
    let cosi = xinc.cos in
    let xmx = neg snod ⊗ cosi in
    let xmy = cnod ⊗ cosi in
    let ux = xmx ⊗ sinsu ⊕ cnod ⊗ cossu in
    let uy = xmy ⊗ sinsu ⊕ snod ⊗ cossu in
    let uz = sini ⊗ sinsu in
    let vx = xmx ⊗ cossu ⊖ cnod ⊗ sinsu in
    let vy = xmy ⊗ cossu ⊖ snod ⊗ sinsu in
    let vz = sini ⊗ cossu in
    record {
      rx = (short.mrt ⊗ ux) ⊗ radiusearthkm;
      ry = (short.mrt ⊗ uy) ⊗ radiusearthkm;
      rz = (short.mrt ⊗ uz) ⊗ radiusearthkm;
      vx = (short.mvt ⊗ ux ⊕ short.rvdot ⊗ vx) ⊗ v;
      vy = (short.mvt ⊗ uy ⊕ short.rvdot ⊗ vy) ⊗ v;
      vz = (short.mvt ⊗ uz ⊕ short.rvdot ⊗ vz) ⊗ v;
    }

-- 3573-3578 and the above
unfoldable pub state : Short → State
state short = oriented short (sin_cos short.su) (sin_cos short.xnode) (sin_cos short.xinc) vkmpersec

-- where it is false: refusal 15
unfoldable pub finite_state : State → Bool
finite_state s = finite s.rx && finite s.ry && finite s.rz && finite s.vx && finite s.vy && finite s.vz
